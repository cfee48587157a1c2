-- Segments whose boxes are disjoint have no common point.
use Rattle.std.proofs.Common.{◌≡◌, ℕ, ◌+◌, ◌*◌, ◌<◌, ◌≤◌, Bool, true, false, IsTrue, ◌||◌, arith, refl, ap, sym, ℤ, min, max, ⊎_elim, inl, inr, ◌⊎◌}
use Rattle.std.specs.Prelude.{int_lt}
use Rattle.std.specs.Int.{int_min, int_max}
use Rattle.std.proofs.Math.Nat.{mul-lt-mul_of_pos_left}
use Rattle.std.proofs.lemmas.Int.{ints, clamps}
use borrow.Author.Differences.{down}
use Rattle.geometry_spec.specs.Points.{Point}
use Rattle.geometry_spec.specs.Signs.{meeting_of}
use Rattle.geometry_spec.specs.Boxes.{box_of, are_disjoint}
use Rattle.geometry_spec.specs.declared.segment.MeetCase.TheVariants.{Apart}
use Rattle.geometry_spec.proofs.LineOrder.{mean_not_above, mean_not_below}
use Rattle.geometry_spec.proofs.Shift.{shifted, shifted_is}
use Rattle.geometry_spec.proofs.ShiftedPoints.{AreCovered, WeightsOf}
use Rattle.geometry_spec.proofs.MeetingCases.{shift_for, width_for, are_covered, is_apart, one_case, meeting_is}

-- ---- one coordinate
-- means of numbers on two sides of a gap differ
no_mean_across : (a m b n p q r s : ℕ) → 0 < a + m → a + m ≡ b + n → max p q < min r s → a * p + m * q ≡ b * r + n * s → ⊥
no_mean_across a m b n p q r s some even gap same =
    let low : a * p + m * q ≤ (a + m) * max p q = mean_not_above a m p q (max p q) (omega arith) (omega arith) in
    let high : (b + n) * min r s ≤ b * r + n * s = mean_not_below b n r s (min r s) (omega arith) (omega arith) in
    let across : (a + m) * max p q < (a + m) * min r s = mul-lt-mul_of_pos_left gap some in
    let as_even : (a + m) * min r s ≡ (b + n) * min r s = ap (λ t. t * min r s) even in
    omega arith

gap_shifted : (shift : ℕ) (p q r s : ℤ) → down p ≤ shift → down q ≤ shift → down r ≤ shift → down s ≤ shift
    → int_lt (int_max p q) (int_min r s) ≡ true
    → max (shifted shift p) (shifted shift q) < min (shifted shift r) (shifted shift s)
gap_shifted shift p q r s fp fq fr fs e =
    omega (arith, ints, clamps, shifted_is shift p fp, shifted_is shift q fq, shifted_is shift r fr, shifted_is shift s fs)

-- ---- four ways for boxes to be disjoint
one_of_four : (a b c d : Bool) → (a || b) || (c || d) ≡ true → ((a ≡ true) ⊎ (b ≡ true)) ⊎ ((c ≡ true) ⊎ (d ≡ true))
one_of_four true b c d e = inl (inl refl)
one_of_four false true c d e = inl (inr refl)
one_of_four false false true d e = inr (inl refl)
one_of_four false false false true e = inr (inr refl)
one_of_four false false false false e = absurd (cc)

none_by_boxes : (shift width : ℕ) (p q r s : Point) → AreCovered shift width p q r s → IsTrue (are_disjoint (box_of p q) (box_of r s))
    → WeightsOf shift p q r s → ⊥
none_by_boxes shift width p q r s f e w = ⊎_elim
    (λ rows. ⊎_elim
    (λ h. no_mean_across w.a w.m w.b w.n _ _ _ _ w.some w.even (gap_shifted shift p.0 q.0 r.0 s.0 f.at_p.y f.at_q.y f.at_r.y f.at_s.y h) w.same_y)
    (λ h. no_mean_across w.b w.n w.a w.m _ _ _ _ (omega (arith, w.some, w.even)) (sym w.even)
    (gap_shifted shift r.0 s.0 p.0 q.0 f.at_r.y f.at_s.y f.at_p.y f.at_q.y h) (sym w.same_y))
    rows)
    (λ columns. ⊎_elim
    (λ h. no_mean_across w.a w.m w.b w.n _ _ _ _ w.some w.even (gap_shifted shift p.1 q.1 r.1 s.1 f.at_p.x f.at_q.x f.at_r.x f.at_s.x h) w.same_x)
    (λ h. no_mean_across w.b w.n w.a w.m _ _ _ _ (omega (arith, w.some, w.even)) (sym w.even)
    (gap_shifted shift r.1 s.1 p.1 q.1 f.at_r.x f.at_s.x f.at_p.x f.at_q.x h) (sym w.same_x))
    columns)
    (one_of_four _ _ _ _ e)

pub apart_by_boxes : (p q r s : Point) → IsTrue (are_disjoint (box_of p q) (box_of r s)) → meeting_of p q r s ≡ Apart
apart_by_boxes p q r s e = one_case p q r s (meeting_of p q r s) Apart (meeting_is p q r s)
    (is_apart (shift_for p q r s) (width_for p q r s) p q r s (are_covered p q r s)
    (none_by_boxes (shift_for p q r s) (width_for p q r s) p q r s (are_covered p q r s) e))
