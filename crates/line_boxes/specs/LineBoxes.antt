-- The box around the segments of a line. This project's own.
use Rattle.std.specs.Prelude.{List, [], ◌∷◌, Option, None, Some, fold}
use Rattle.std.specs.Int.{int_min, int_max}
use Rattle.geometry_spec.specs.Boxes.{box_of}
use Rattle.geometry_spec.specs.declared.tile.Box4.{Box4}
use Rattle.rule_spec.specs.Vectors.{Numbered}

-- the least box that holds two boxes
abbrev pub united : Box4 → Box4 → Box4
united a b = record { south = int_min a.south b.south; west = int_min a.west b.west; north = int_max a.north b.north; east = int_max a.east b.east }

-- the box of a numbered segment
abbrev pub box_of_segment : Numbered → Box4
box_of_segment s = box_of s.1.0 s.1.1

-- the least box that holds a box and the boxes of segments
abbrev pub box_with : Box4 → List Numbered → Box4
box_with start segments = fold (λ around s. united around (box_of_segment s)) start segments

-- the least box that holds the segments of a line, if it has any
abbrev pub line_box : List Numbered → Option Box4
line_box [] = None
line_box (s ∷ rest) = Some (box_with (box_of_segment s) (s ∷ rest))
