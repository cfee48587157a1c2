-- The box around segments is the one around a line, where they are numbered.
use Rattle.std.proofs.Common.{◌≡◌, ℕ, ◌+◌, List, [], ◌∷◌, Some, refl, ap}
use Rattle.std.specs.List.{enumerate_from}
use Rattle.geometry_spec.specs.Boxes.{box_of}
use Rattle.geometry_spec.specs.declared.tile.Box4.{Box4}
use Rattle.rule_spec.specs.EdgePoints.{Segment}
use Rattle.line_boxes.specs.LineBoxes.{united, box_with as box_with_numbered}
use Rattle.finding_laws.specs.Pairs.{box_around}
use Rattle.tile_index.specs.Extents.{box_of_all, box_with}

with_numbers : (k : ℕ) (start : Box4) (segments : List Segment) → box_with start segments ≡ box_with_numbered start (enumerate_from k segments)
with_numbers k start [] = refl
with_numbers k start (s ∷ segments) = with_numbers (k + 1) (united start (box_of s.0 s.1)) segments

pub box_is : (segments : List Segment) → box_of_all segments ≡ box_around segments
box_is [] = refl
box_is (s ∷ segments) = ap Some (with_numbers 1 (box_of s.0 s.1) (s ∷ segments))
