use Rattle.std.proofs.Common.{◌≡◌, ◌≤◌, ◌^◌, ◌*◌, ◌+ℤ◌, ◌++◌, ◌∷◌, [], drop, unsigned_abs}
use Rattle.geometry_spec.specs.Areas.{signed_double_area, twice_area_along}
use Rattle.ring_build.proofs.turn.turn_of.Given as goal

-- the way that is left gives the rest of the sum
abbrev pub invariant-loop-point : goal.invariant-loop-point
invariant-loop-point l = record {
  summed : l.turn +ℤ twice_area_along (l.before ∷ (drop l.point-index l.points ++ l.first ∷ [])) ≡ signed_double_area l.points;
  small : unsigned_abs l.turn ≤ l.point-index * 2 ^ 63;
}
