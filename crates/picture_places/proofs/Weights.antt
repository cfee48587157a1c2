-- How great weighed numbers are, and the sum round a triangle.
use Rattle.std.proofs.Common.{◌≡◌, ℕ, ◌+◌, ◌*◌, ◌/◌, ◌^◌, ◌<◌, ◌≤◌, ℤ, pos, ◌+ℤ◌, [], ◌∷◌, arith}
use Rattle.std.proofs.lemmas.Int.{ints}
use Rattle.geometry_spec.specs.Areas.{signed_double_area, twice_area_step}
use Rattle.geometry_spec.specs.Points.{Point}
use Rattle.std.proofs.Math.Nat.{div-le_of_le-mul, mul-le-mul}

pub product_small : (a t : ℕ) → a < 2 ^ 32 → t ≤ 2 ^ 65 → a * t ≤ 2 ^ 97
product_small a t first second =
    let most : a ≤ 2 ^ 32 = omega (arith, first) in
    let times : a * t ≤ 2 ^ 32 * 2 ^ 65 = mul-le-mul {n₂ = 2 ^ 32} {m₂ = 2 ^ 65} most second in
    omega (arith, times)

-- a number between two of 32 bits has 32 bits
pub mean_small : (a b s t : ℕ) → a < 2 ^ 32 → b < 2 ^ 32 → (a * s + b * t) / (s + t) < 2 ^ 32
mean_small a b s t first second =
    let most_a : a ≤ 4294967295 = omega (arith, first) in
    let most_b : b ≤ 4294967295 = omega (arith, second) in
    let same_s : s ≤ s = omega arith in
    let same_t : t ≤ t = omega arith in
    let times_a : a * s ≤ 4294967295 * s = mul-le-mul {n₂ = 4294967295} {m₂ = s} most_a same_s in
    let times_b : b * t ≤ 4294967295 * t = mul-le-mul {n₂ = 4294967295} {m₂ = t} most_b same_t in
    let within : (a * s + b * t) / (s + t) ≤ 4294967295 = div-le_of_le-mul (s + t) (omega (arith, times_a, times_b)) in
    omega (arith, within)

sum_of_three : (x y z : ℤ) → (x +ℤ y) +ℤ z ≡ x +ℤ (y +ℤ (z +ℤ pos 0))
sum_of_three x y z = omega (arith, ints)

pub round_triangle : (a b c : Point) → (twice_area_step a b +ℤ twice_area_step b c) +ℤ twice_area_step c a ≡ signed_double_area (a ∷ b ∷ c ∷ [])
round_triangle a b c = sum_of_three (twice_area_step a b) (twice_area_step b c) (twice_area_step c a)
