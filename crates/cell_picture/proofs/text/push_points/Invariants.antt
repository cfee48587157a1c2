use Rattle.std.proofs.Common.{◌≡◌, ◌++◌, take}
use Rattle.std.specs.List.{flat_map}
use Rattle.text_spec.specs.Lines.{spaced_words}
use Rattle.cell_picture.specs.ShapeText.{point_words}
use Rattle.cell_picture.proofs.text.push_points.Given as goal

abbrev pub invariant-loop-point : goal.invariant-loop-point
invariant-loop-point l = l.out.items ≡ l.initial.out.items ++ spaced_words (flat_map point_words (take l.point-index l.points))
