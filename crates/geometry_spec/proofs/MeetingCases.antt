-- The computed case of two segments is that of their common points, and no other case is.
use Rattle.std.proofs.Common.{◌≡◌, ℕ, ◌+◌, ◌<◌, Bool, true, false, ◌↔◌, arith, refl, subst, Ordering, cond}
use Rattle.std.specs.declared.cmp.Ordering.TheVariants.{Less, Equal, Greater}
use Rattle.geometry_spec.specs.Points.{Point, point_cmp, orientation_of}
use Rattle.geometry_spec.specs.Segments.{SegmentMeeting}
use Rattle.geometry_spec.specs.Signs.{have_one_sign, are_zero, case_from_to, meeting_on_line, meeting_of}
use Rattle.geometry_spec.specs.declared.segment.MeetCase.{MeetCase}
use Rattle.geometry_spec.specs.declared.segment.MeetCase.TheVariants.{Apart, At, Along}
use borrow.Author.Differences.{up, down}
use Rattle.geometry_spec.proofs.Weights.{IsSameWeighted, swapped}
use Rattle.geometry_spec.proofs.LineOrder.{none_in_rank, one_in_rank, differ_by_rank}
use Rattle.geometry_spec.proofs.Shift.{grid_point, in_grid}
use Rattle.geometry_spec.proofs.ShiftedPoints.{AreCovered, WeightsOf, weights_of, common_point_of, same_points, same_weights}
use Rattle.geometry_spec.proofs.Sides.{FourSides, four_sides, none_on_one_side, some_across, one_across, on_one_line}
use Rattle.geometry_spec.proofs.OneLine.{IsRanked, ranked, OnOneLine, IsBound, start_of, end_of, start_is, end_is, low_of, high_of, rank_of, IsCommonAt}
use Rattle.geometry_spec.proofs.OneLine.{common_at_bound}

-- ---- a shift and a width for four points
abbrev pub shift_for : Point → Point → Point → Point → ℕ
shift_for p q r s = down p.0 + down p.1 + down q.0 + down q.1 + down r.0 + down r.1 + down s.0 + down s.1

abbrev pub width_for : Point → Point → Point → Point → ℕ
width_for p q r s = shift_for p q r s + up p.1 + up q.1 + up r.1 + up s.1 + 1

pub are_covered : (p q r s : Point) → AreCovered (shift_for p q r s) (width_for p q r s) p q r s
are_covered p q r s = record {
  at_p = record { y = omega arith; x = omega arith; wide = omega arith };
  at_q = record { y = omega arith; x = omega arith; wide = omega arith };
  at_r = record { y = omega arith; x = omega arith; wide = omega arith };
  at_s = record { y = omega arith; x = omega arith; wide = omega arith };
}

-- ---- the cases by weights
abbrev AreAllOne : ℕ → Point → Point → Point → Point → Type 0
AreAllOne shift p q r s = (v w : WeightsOf shift p q r s) → IsSameWeighted (grid_point shift p) (grid_point shift q) v.a v.m w.a w.m

pub is_apart : (shift width : ℕ) (p q r s : Point) → AreCovered shift width p q r s → (WeightsOf shift p q r s → ⊥) → SegmentMeeting p q r s Apart
is_apart shift width p q r s f none w = none (weights_of shift width p q r s f w)

is_at : (shift width : ℕ) (p q r s : Point) → AreCovered shift width p q r s → WeightsOf shift p q r s → AreAllOne shift p q r s
    → SegmentMeeting p q r s At
is_at shift width p q r s f w one = (
  common_point_of shift width p q r s f w,
  λ v u. same_points shift width p q r s f v u (one (weights_of shift width p q r s f v) (weights_of shift width p q r s f u)),
)

is_along : (shift width : ℕ) (p q r s e g : Point) → AreCovered shift width p q r s
    → IsCommonAt width (grid_point shift p) (grid_point shift q) (grid_point shift r) (grid_point shift s) (grid_point shift e)
    → IsCommonAt width (grid_point shift p) (grid_point shift q) (grid_point shift r) (grid_point shift s) (grid_point shift g)
    → rank_of shift width e < rank_of shift width g → SegmentMeeting p q r s Along
is_along shift width p q r s e g f v w less = (
  common_point_of shift width p q r s f v.weights,
  common_point_of shift width p q r s f w.weights,
  λ same. differ_by_rank width (grid_point shift p) (grid_point shift q) (grid_point shift e)
      (grid_point shift g) v.weights.a v.weights.m w.weights.a w.weights.m v.weights.some w.weights.some v.there w.there less
      (same_weights shift width p q r s f v.weights w.weights same),
)

-- ---- on one line
line_case : (shift width : ℕ) (p q r s : Point) → OnOneLine shift width p q r s
    → IsBound shift width p q r s (start_of p q r s) (low_of shift width p q r s)
    → IsBound shift width p q r s (end_of p q r s) (high_of shift width p q r s)
    → (o : Ordering) → IsRanked shift width (start_of p q r s) (end_of p q r s) o → SegmentMeeting p q r s (case_from_to o)
line_case shift width p q r s f low high Less h = is_along shift width p q r s (start_of p q r s) (end_of p q r s) f.covered
    (common_at_bound shift width p q r s (start_of p q r s) f.covered low.on_both (omega (arith, low.has_rank)) (omega (arith, low.has_rank, high.has_rank, h)))
    (common_at_bound shift width p q r s (end_of p q r s) f.covered high.on_both (omega (arith, low.has_rank, high.has_rank, h)) (omega (arith, high.has_rank)))
    h
line_case shift width p q r s f low high Equal h = is_at shift width p q r s f.covered
    (common_at_bound shift width p q r s (start_of p q r s) f.covered low.on_both (omega (arith, low.has_rank))
    (omega (arith, low.has_rank, high.has_rank, h))).weights
    (one_in_rank width _ _ _ _ (in_grid shift width p f.covered.at_p) (in_grid shift width q f.covered.at_q) (omega (arith, low.has_rank, high.has_rank, h)))
line_case shift width p q r s f low high Greater h = is_apart shift width p q r s f.covered
    (none_in_rank width _ _ _ _ (omega (arith, low.has_rank, high.has_rank, h)))

line_meeting : (shift width : ℕ) (p q r s : Point) → OnOneLine shift width p q r s → SegmentMeeting p q r s (meeting_on_line p q r s)
line_meeting shift width p q r s f =
    let low : IsBound shift width p q r s (start_of p q r s) (low_of shift width p q r s) = start_is shift width p q r s f in
    let high : IsBound shift width p q r s (end_of p q r s) (high_of shift width p q r s) = end_is shift width p q r s f in
    line_case shift width p q r s f low high (point_cmp (start_of p q r s) (end_of p q r s))
    (ranked shift width (start_of p q r s) (end_of p q r s) low.on_both.covered high.on_both.covered)

-- ---- by the tests
meeting_by : (shift width : ℕ) (p q r s : Point) → AreCovered shift width p q r s → (first second line : Bool)
    → have_one_sign (orientation_of p q r) (orientation_of p q s) ≡ first → have_one_sign (orientation_of r s p) (orientation_of r s q) ≡ second
    → are_zero (orientation_of p q r) (orientation_of p q s) ≡ line
    → SegmentMeeting p q r s (cond first Apart (cond second Apart (cond line (meeting_on_line p q r s) At)))
meeting_by shift width p q r s f first second line e g h = by first second line e g h
  where
    sides : FourSides (grid_point shift p) (grid_point shift q) (grid_point shift r) (grid_point shift s) (orientation_of p q r)
        (orientation_of p q s) (orientation_of r s p) (orientation_of r s q)
    sides = four_sides shift width p q r s f

    by : (first second line : Bool) → have_one_sign (orientation_of p q r) (orientation_of p q s) ≡ first
        → have_one_sign (orientation_of r s p) (orientation_of r s q) ≡ second → are_zero (orientation_of p q r) (orientation_of p q s) ≡ line
        → SegmentMeeting p q r s (cond first Apart (cond second Apart (cond line (meeting_on_line p q r s) At)))
    by true second line e g h = is_apart shift width p q r s f
        (none_on_one_side _ _ _ _ _ _ sides.r_side sides.s_side e)
    by false true line e g h = is_apart shift width p q r s f
        (λ w. none_on_one_side _ _ _ _ _ _ sides.p_side sides.q_side g (swapped _ _ _ _ w))
    by false false true e g h =
        line_meeting shift width p q r s (record { covered = f; line = on_one_line _ _ _ _ _ _ _ _ sides g h })
    by false false false e g h = is_at shift width p q r s f
        (some_across _ _ _ _ _ _ _ _ sides e g h)
        (one_across _ _ _ _ _ _ sides.r_side sides.s_side h)

pub meeting_is : (p q r s : Point) → SegmentMeeting p q r s (meeting_of p q r s)
unfolding meeting_of
meeting_is p q r s = meeting_by (shift_for p q r s) (width_for p q r s) p q r s (are_covered p q r s) _ _ _ refl refl refl

-- ---- no two cases at once
pub one_case : (p q r s : Point) (a b : MeetCase) → SegmentMeeting p q r s a → SegmentMeeting p q r s b → a ≡ b
one_case p q r s Apart Apart v w = refl
one_case p q r s At At v w = refl
one_case p q r s Along Along v w = refl
one_case p q r s Apart At v w = absurd (v w.0)
one_case p q r s Apart Along v w = absurd (v w.0)
one_case p q r s At Apart v w = absurd (w v.0)
one_case p q r s Along Apart v w = absurd (w v.0)
one_case p q r s At Along v w = absurd (w.2 (v.1 w.0 w.1))
one_case p q r s Along At v w = absurd (v.2 (w.1 v.0 v.1))

pub meeting_decided : (p q r s : Point) (met : MeetCase) → SegmentMeeting p q r s met ↔ (meeting_of p q r s ≡ met)
meeting_decided p q r s met = (
  λ h. one_case p q r s (meeting_of p q r s) met (meeting_is p q r s) h,
  λ e. subst (SegmentMeeting p q r s) e (meeting_is p q r s),
)
