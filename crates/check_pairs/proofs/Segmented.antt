-- A line is its first point and those that its segments come to.
use Rattle.std.proofs.Common.{◌≡◌, ℕ, ◌+◌, ◌-◌, List, [], ◌∷◌, ◌++◌, Option, length, map, refl, sym, ap, ◌∙◌}
use Rattle.std.specs.List.{enumerate_from, slice_get}
use Rattle.geometry_spec.specs.Points.{Point}
use Rattle.geometry_spec.specs.declared.tile.Box4.{Box4}
use Rattle.line_boxes.specs.LineBoxes.{line_box}
use Rattle.near_records.specs.LineEnds.{line_from}
use Rattle.near_records.specs.declared.ends.LineEnd.{LineEnd}
use Rattle.rule_spec.specs.declared.line.EdgeLine.{EdgeLine}
use Rattle.rule_spec.specs.EdgePoints.{segments_of}
use Rattle.rule_spec.specs.Vectors.{Numbered}
use Rattle.check_pairs.specs.SegmentedLines.{AreSegments, line_along}
use Rattle.check_pairs.proofs.Places.{last_between}

points_come_to : (k : ℕ) (p : Point) (rest : List Point) → map (λ (s : Numbered). s.1.1) (enumerate_from k (segments_of (p ∷ rest))) ≡ rest
points_come_to k p [] = refl
points_come_to k p (q ∷ rest) = ap (λ points. q ∷ points) (points_come_to (k + 1) q rest)

module _ (begins : LineEnd) (points : List Point) (ends : LineEnd) (segments : List Numbered)
    (are : segments ≡ enumerate_from 1 (segments_of (begins.at ∷ (points ++ ends.at ∷ [])))) where
  pub is_line : line_along begins segments ends ≡ line_from begins points ends
  is_line =
      let with_points : List Point → EdgeLine = λ rest. record { begins = begins.node; ends = ends.node; points = begins.at ∷ rest } in
      ap with_points (ap (map (λ (s : Numbered). s.1.1)) are ∙ points_come_to 1 begins.at (points ++ ends.at ∷ []))

  pub are_segments : (around : Option Box4) → around ≡ line_box segments → AreSegments begins segments ends around
  are_segments around boxed = record {
    numbered = are ∙ ap (λ (line : EdgeLine). enumerate_from 1 (segments_of line.points)) (sym is_line);
    boxed = boxed;
    last =
        ap (λ (line : EdgeLine). slice_get line.points (length line.points - 1)) is_line
        ∙ last_between begins.at points ends.at;
  }
