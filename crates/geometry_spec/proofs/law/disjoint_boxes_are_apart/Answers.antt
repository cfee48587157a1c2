use Rattle.geometry_spec.proofs.DisjointBoxes.{apart_by_boxes}
use Rattle.geometry_spec.proofs.law.disjoint_boxes_are_apart.Goals as goal

pub returns : goal.returns
returns c = apart_by_boxes
