-- The line of an edge as its segments are kept. This project's own.
use Rattle.std.specs.Prelude.{◌≡◌, ◌-◌, List, ◌∷◌, Option, Some, length, map}
use Rattle.std.specs.List.{enumerate_from, slice_get}
use Rattle.geometry_spec.specs.declared.tile.Box4.{Box4}
use Rattle.line_boxes.specs.LineBoxes.{line_box}
use Rattle.near_records.specs.declared.ends.LineEnd.{LineEnd}
use Rattle.rule_spec.specs.declared.line.EdgeLine.{EdgeLine}
use Rattle.rule_spec.specs.EdgePoints.{segments_of}
use Rattle.rule_spec.specs.Vectors.{Numbered}
use Rattle.check_pairs.specs.declared.line.Segments.{Segments}
use Rattle.check_pairs.specs.declared.line.Segments.TheVariants.{One, More}

-- the segments in their order
abbrev pub listed : Segments → List Numbered
listed (One segments) = segments
listed (More segments) = segments.items

-- the line from one node along segments to another
abbrev pub line_along : LineEnd → List Numbered → LineEnd → EdgeLine
line_along begins segments ends = record { begins = begins.node; ends = ends.node; points = begins.at ∷ map (λ (s : Numbered). s.1.1) segments }

-- the segments are the line's, numbered, within the box, and the last of them comes to its end
pub record AreSegments (begins : LineEnd) (segments : List Numbered) (ends : LineEnd) (around : Option Box4) : Type 0 where
  pub numbered : segments ≡ enumerate_from 1 (segments_of (line_along begins segments ends).points)
  pub boxed : around ≡ line_box segments
  pub last : slice_get (line_along begins segments ends).points (length (line_along begins segments ends).points - 1) ≡ Some ends.at
