-- What an edge adds, by its orientation.
use Rattle.std.proofs.Common.{◌≡◌, ℕ, ◌==◌, pos, ◌-ℤ◌, Bool, true, false, List, [], Option, Some, None, cond, map, refl, sym}
use Rattle.std.specs.Option.{option_map_or}
use Rattle.geometry_spec.specs.Points.{Point}
use Rattle.rule_spec.specs.EdgePoints.{Segment, edge_points_of, segments_of}
use Rattle.s57_types.specs.declared.cell.Cell.{Cell}
use Rattle.s57_types.specs.declared.record.Spot.{Spot}
use Rattle.skin_probe.specs.Kept.{taken}
use Rattle.skin_probe.specs.Winding.{backwards, crossing_of, edge_winding, pointer_winding, sum_of, winding_along}
use Rattle.skin_probe.proofs.Crossings.{backwards_negates}

none_taken : (forward reverse : Bool) → cond forward (pos 0) (cond reverse (pos 0 -ℤ pos 0) (pos 0)) ≡ pos 0
none_taken true reverse = refl
none_taken false true = refl
none_taken false false = refl

some_taken : (at : Point) (segments : List Segment) (forward reverse : Bool)
    → cond forward (sum_of (crossing_of at) segments) (cond reverse (pos 0 -ℤ sum_of (crossing_of at) segments) (pos 0))
    ≡ sum_of (crossing_of at) (cond forward segments (cond reverse (map backwards segments) []))
some_taken at segments true reverse = refl
some_taken at segments false true = sym (backwards_negates at segments)
some_taken at segments false false = refl

by_points : (at : Point) (ornt : ℕ) (o : Option (List Point))
    → taken ornt (option_map_or (winding_along at 1) o (pos 0)) ≡ option_map_or (winding_along at ornt) o (pos 0)
by_points at ornt None = none_taken (ornt == 1) (ornt == 2)
by_points at ornt (Some points) = some_taken at (segments_of points) (ornt == 1) (ornt == 2)

pub pointer_taken : (c : Cell) (at : Point) (s : Spot) → taken s.ornt (edge_winding c at s.to) ≡ pointer_winding c at s
pointer_taken c at s = by_points at s.ornt (edge_points_of c s.to)
