-- The box around segments, which have no numbers here. This project's own rules.
use Rattle.std.specs.Prelude.{List, [], ◌∷◌, Option, None, Some, fold}
use Rattle.geometry_spec.specs.Boxes.{box_of}
use Rattle.geometry_spec.specs.declared.tile.Box4.{Box4}
use Rattle.rule_spec.specs.EdgePoints.{Segment}
use Rattle.line_boxes.specs.LineBoxes.{united}

-- the least box that holds a box and the boxes of segments
abbrev pub box_with : Box4 → List Segment → Box4
box_with start segments = fold (λ around (s : Segment). united around (box_of s.0 s.1)) start segments

-- the least box that holds segments, if there are any
abbrev pub box_of_all : List Segment → Option Box4
box_of_all [] = None
box_of_all (s ∷ rest) = Some (box_with (box_of s.0 s.1) (s ∷ rest))
