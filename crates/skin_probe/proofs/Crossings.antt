-- Crossings of the ray from a point to the east.
use Rattle.std.proofs.Common.{◌≡◌, ◌+◌, ◌*◌, Bool, true, false, List, cond, map, lt-ltb, refl, sym, ap, ◌∙◌, zero, suc, ℤ, pos, negsuc, ◌+ℤ◌}
use Rattle.std.proofs.Common.{◌-ℤ◌, ◌*ℤ◌, int_le, int_lt, min, FitsSigned, w8, arith}
use Rattle.std.specs.Int.{int_signum}
use Rattle.std.proofs.lemmas.Bool.{and_parts}
use Rattle.std.proofs.lemmas.Int.{ints}
use borrow.Author.Differences.{up, down}
use Rattle.geometry_spec.specs.Points.{Point, orientation_of}
use Rattle.rule_spec.specs.EdgePoints.{Segment}
use Rattle.skin_probe.specs.Winding.{sum_of, is_passed, is_east_of, crosses_ray, crossing_of, backwards}
use Rattle.skin_probe.proofs.Sums.{sum_mapped, sum_negated}

-- ---- the side of a way
positive_sign : (z : ℤ) → int_lt (pos 0) (int_signum z) ≡ int_lt (pos 0) z
positive_sign (pos zero) = refl
positive_sign (pos (suc n)) = lt-ltb 0 (min (suc n) 1) (omega arith) ∙ sym (lt-ltb 0 (suc n) (omega arith))
positive_sign (negsuc n) = refl

pub sign_fits : (z : ℤ) → FitsSigned w8 (int_signum z)
sign_fits (pos n) = omega (arith, ints)
sign_fits (negsuc n) = omega (arith, ints)

tests_by : (a b c d : ℤ) (x y : Bool) → int_lt a b ≡ x → int_lt c d ≡ y → a +ℤ d ≡ c +ℤ b → x ≡ y
tests_by a b c d true true p q e = refl
tests_by a b c d true false p q e = absurd (omega (arith, ints))
tests_by a b c d false true p q e = absurd (omega (arith, ints))
tests_by a b c d false false p q e = refl

-- two comparisons of numbers that differ equally
same_tests : (a b c d : ℤ) → a +ℤ d ≡ c +ℤ b → int_lt a b ≡ int_lt c d
same_tests a b c d e = tests_by a b c d (int_lt a b) (int_lt c d) refl refl e

difference_is : (b a : ℤ) → up (b -ℤ a) + down b + up a ≡ down (b -ℤ a) + up b + down a
difference_is b a = omega (arith, ints)

times_difference : (w b a : ℤ) → (w *ℤ (b -ℤ a)) +ℤ (w *ℤ a) ≡ w *ℤ b
times_difference w b a = omega (arith, ints, ap (λ t. up w * t) (difference_is b a), ap (λ t. down w * t) (difference_is b a))

swapped_factors : (a b : ℤ) → a *ℤ b ≡ b *ℤ a
swapped_factors a b = omega (arith, ints)

regrouped : (p other q r s : ℤ) → other ≡ p → q +ℤ r ≡ s → pos 0 +ℤ (r +ℤ other) ≡ s +ℤ (p -ℤ q)
regrouped p other q r s e f = omega (arith, ints)

-- a point lies to the left of a way that rises exactly where the way has the point's latitude east of it
pub left_is_east : (at low high : Point) → int_lt (pos 0) (int_signum (orientation_of low high at)) ≡ is_east_of at low high
left_is_east at low high =
    let rise = high.0 -ℤ low.0 in
    let across = (high.1 -ℤ low.1) *ℤ (at.0 -ℤ low.0) in
    let turned = (at.0 -ℤ low.0) *ℤ (high.1 -ℤ low.1) in
    positive_sign (orientation_of low high at)
    ∙ same_tests (pos 0) (orientation_of low high at) (rise *ℤ at.1) ((rise *ℤ low.1) +ℤ turned)
    (regrouped across turned (rise *ℤ (at.1 -ℤ low.1)) (rise *ℤ low.1) (rise *ℤ at.1) (swapped_factors (at.0 -ℤ low.0) (high.1 -ℤ low.1))
    (times_difference rise at.1 low.1))

-- ---- the other way
-- a latitude isn't passed upwards and downwards at once
not_both : (y : ℤ) (p q : Point) → is_passed y p q ≡ true → is_passed y q p ≡ true → ⊥
not_both y p q e f =
    let rises = and_parts (int_le p.0 y) (int_lt y q.0) e in
    let falls = and_parts (int_le q.0 y) (int_lt y p.0) f in
    omega (arith, ints, rises.0, falls.1)

turned_by : (upwards downwards : Bool) → (upwards ≡ true → downwards ≡ true → ⊥)
    → cond downwards (negsuc 0) (cond upwards (pos 1) (pos 0)) ≡ pos 0 -ℤ cond upwards (negsuc 0) (cond downwards (pos 1) (pos 0))
turned_by true true apart = absurd (apart refl refl)
turned_by true false apart = refl
turned_by false true apart = refl
turned_by false false apart = refl

turned : (at : Point) (s : Segment) → crossing_of at (backwards s) ≡ pos 0 -ℤ crossing_of at s
turned at s = turned_by (crosses_ray at s.0 s.1) (crosses_ray at s.1 s.0)
    (λ e f. not_both at.0 s.0 s.1 (and_parts (is_passed at.0 s.0 s.1) (is_east_of at s.0 s.1) e).0
    (and_parts (is_passed at.0 s.1 s.0) (is_east_of at s.1 s.0) f).0)

pub backwards_negates : (at : Point) (segments : List Segment) → sum_of (crossing_of at) (map backwards segments) ≡ pos 0 -ℤ sum_of (crossing_of at) segments
backwards_negates at segments =
    sum_mapped (crossing_of at) backwards segments ∙ sum_negated (crossing_of at) (λ s. crossing_of at (backwards s)) segments (turned at)
