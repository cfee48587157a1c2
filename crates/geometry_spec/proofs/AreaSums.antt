-- One more point at the end of a list adds one step to the sum along it.
use Rattle.std.proofs.Common.{◌≡◌, ◌+ℤ◌, List, [], ◌∷◌, ◌++◌, arith}
use Rattle.std.proofs.lemmas.Int.{ints}
use Rattle.geometry_spec.specs.Points.{Point}
use Rattle.geometry_spec.specs.Areas.{twice_area_step, twice_area_along}

pub twice_area_along-append : (points : List Point) (a b : Point)
    → twice_area_along ((points ++ a ∷ []) ++ b ∷ []) ≡ twice_area_along (points ++ a ∷ []) +ℤ twice_area_step a b
twice_area_along-append [] a b = omega (arith, ints)
twice_area_along-append (p ∷ []) a b = omega (arith, ints)
twice_area_along-append (p ∷ q ∷ rest) a b = omega (arith, ints, twice_area_along-append (q ∷ rest) a b)
