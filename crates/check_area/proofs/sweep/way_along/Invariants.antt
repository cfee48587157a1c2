use Rattle.std.proofs.Common.{◌≡◌, ◌∷◌, ◌+ℤ◌, drop}
use Rattle.geometry_spec.specs.Areas.{twice_area_along}
use Rattle.check_area.specs.Sweeps.{last_point}
use Rattle.check_area.proofs.sweep.way_along.Given as goal

abbrev pub invariant-loop-point : goal.invariant-loop-point
invariant-loop-point l = record {
  comes_to : last_point (l.way.at ∷ drop l.point-index l.rest) ≡ last_point (l.fn.first ∷ l.rest);
  summed : (l.way.swept +ℤ twice_area_along (l.way.at ∷ drop l.point-index l.rest)) ≡ twice_area_along (l.fn.first ∷ l.rest);
}
