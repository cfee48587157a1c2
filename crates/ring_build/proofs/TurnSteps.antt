-- The steps of a turn: how great each is, and their sum one point on.
use Rattle.std.proofs.Common.{◌≡◌, ℕ, ◌+◌, ◌^◌, ◌<◌, ◌≤◌, ℤ, pos, negsuc, ◌+ℤ◌, ◌*ℤ◌, unsigned_abs, FitsSigned, List, [], ◌∷◌, ◌++◌, length, drop, get_or}
use Rattle.std.proofs.Common.{w32, arith}
use Rattle.std.proofs.Math.Nat.{mul-le-mul}
use Rattle.std.proofs.lemmas.Int.{ints, unsigned_abs-mul}
use Rattle.std.proofs.lemmas.List.{at_drop_more}
use Rattle.geometry_spec.specs.Points.{Point}
use Rattle.geometry_spec.specs.Areas.{twice_area_step, twice_area_along, signed_double_area}

coordinate_small : (z : ℤ) → FitsSigned w32 z → unsigned_abs z ≤ 2 ^ 31
coordinate_small (pos n) h = omega (arith, ints, h)
coordinate_small (negsuc n) h = omega (arith, ints, h)

product_small : (y z : ℤ) → FitsSigned w32 y → FitsSigned w32 z → unsigned_abs (y *ℤ z) ≤ 2 ^ 62
product_small y z f g = rw (unsigned_abs-mul y z) (mul-le-mul {n₂ = 2 ^ 31} {m₂ = 2 ^ 31} (coordinate_small y f) (coordinate_small z g))

pub step_small : (a b : Point) → FitsSigned w32 a.0 → FitsSigned w32 a.1 → FitsSigned w32 b.0 → FitsSigned w32 b.1 → unsigned_abs (twice_area_step a b) ≤ 2 ^ 63
step_small a b a0 a1 b0 b1 = omega (arith, ints, product_small a.1 b.0 a1 b0, product_small a.0 b.1 a0 b1)

step_back : (a : Point) → twice_area_step a a ≡ pos 0
step_back a = omega (arith, ints)

-- the sum along the points from the first to itself and on is the area
pub from_first : (points : List Point) (d : Point) → 0 < length points
    → twice_area_along (get_or points 0 d ∷ (points ++ get_or points 0 d ∷ [])) ≡ signed_double_area points
from_first [] d h = absurd (omega (arith, h))
from_first (a ∷ rest) d h = omega (arith, ints, step_back a)

-- the sum along what is left, one point on
pub along_more : (points : List Point) (k : ℕ) (before first d : Point) → k < length points
    → twice_area_along (before ∷ (drop k points ++ first ∷ [])) ≡ twice_area_step before (get_or points k d) +ℤ twice_area_along
    (get_or points k d ∷ (drop (k + 1) points ++ first ∷ []))
along_more points k before first d h = at_drop_more (λ rest. twice_area_along (before ∷ (rest ++ first ∷ []))) points k d h
