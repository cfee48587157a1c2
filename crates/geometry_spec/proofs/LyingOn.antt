-- The test of a point and a segment says whether the point lies on it.
use Rattle.std.proofs.Common.{◌≡◌, ℕ, ◌≤◌, Bool, true, false, IsTrue, ◌↔◌, ◌&&◌, arith, refl, ℤ, pos, negsuc, zero, suc, min, max, Ordering}
use Rattle.std.specs.declared.cmp.Ordering.TheVariants.{Less, Equal, Greater}
use Rattle.std.specs.Ordering.{int_eq, is_le}
use Rattle.std.proofs.lemmas.Bool.Decides.{nat_tests}
use borrow.Author.Differences.{up, down}
use Rattle.geometry_spec.specs.Points.{Point, point_cmp, orientation_of}
use Rattle.geometry_spec.specs.Segments.{LiesOn}
use Rattle.geometry_spec.specs.Signs.{lies_on, earlier, later}
use Rattle.geometry_spec.proofs.LineOrder.{OnByWeights, between, on_line, on_between}
use Rattle.geometry_spec.proofs.Shift.{IsCovered, grid_point, in_grid}
use Rattle.geometry_spec.proofs.ShiftedPoints.{AreCovered, on_by_weights_of, lies_on_of}
use Rattle.geometry_spec.proofs.Sides.{IsSide, side_of}
use Rattle.geometry_spec.proofs.OneLine.{rank_of, IsRanked, ranked, IsChosen, earlier_is, later_is}
use Rattle.geometry_spec.proofs.MeetingCases.{shift_for, width_for, are_covered}

-- ---- the tests
zero_is : (z : ℤ) → int_eq z (pos 0) ≡ true → up z ≡ down z
zero_is (pos zero) e = refl
zero_is (pos (suc n)) e = absurd (grind (arith, nat_tests))
zero_is (negsuc n) e = absurd (grind (arith, nat_tests))

is_zero : (z : ℤ) → up z ≡ down z → int_eq z (pos 0) ≡ true
is_zero (pos zero) e = refl
is_zero (pos (suc n)) e = absurd (omega arith)
is_zero (negsuc n) e = absurd (omega arith)

not_after : (shift width : ℕ) (a b : Point) (o : Ordering) → IsRanked shift width a b o → is_le o ≡ true
    → rank_of shift width a ≤ rank_of shift width b
not_after shift width a b Less h e = omega arith
not_after shift width a b Equal h e = omega arith
not_after shift width a b Greater h e = absurd (cc)

in_order : (shift width : ℕ) (a b : Point) (o : Ordering) → IsRanked shift width a b o → rank_of shift width a ≤ rank_of shift width b
    → is_le o ≡ true
in_order shift width a b Less h e = refl
in_order shift width a b Equal h e = refl
in_order shift width a b Greater h e = absurd (omega arith)

all_three : (a b c : Bool) → a && (b && c) ≡ true → (a ≡ true) × (b ≡ true) × (c ≡ true)
all_three true true true e = (refl, refl, refl)
all_three true true false e = absurd (cc)
all_three true false c e = absurd (cc)
all_three false b c e = absurd (cc)

from_all_three : (a b c : Bool) → a ≡ true → b ≡ true → c ≡ true → a && (b && c) ≡ true
from_all_three a b c e f g = rw (e, f, g)

-- ---- both ways
module _ (shift width : ℕ) (w p q : Point) (fw : IsCovered shift width w) (fp : IsCovered shift width p) (fq : IsCovered shift width q) where
  from_test : IsTrue (lies_on w p q) → LiesOn w p q
  unfolding lies_on
  from_test t =
      let tests : (int_eq (orientation_of p q w) (pos 0) ≡ true) × (is_le (point_cmp (earlier p q) w) ≡ true)
      × (is_le (point_cmp w (later p q)) ≡ true) = all_three _ _ _ t in
      let low : IsChosen shift width p q (earlier p q) (min (rank_of shift width p) (rank_of shift width q)) = earlier_is shift width p q fp fq in
      let high : IsChosen shift width p q (later p q) (max (rank_of shift width p) (rank_of shift width q)) = later_is shift width p q fp fq in
      let side : IsSide (orientation_of p q w) (grid_point shift p) (grid_point shift q) (grid_point shift w) = side_of shift width p q w fp fq fw in
      let flat : up (orientation_of p q w) ≡ down (orientation_of p q w) = zero_is (orientation_of p q w) tests.0 in
      let after : rank_of shift width (earlier p q) ≤ rank_of shift width w =
      not_after shift width _ _ _ (ranked shift width (earlier p q) w low.covered fw) tests.1 in
      let before : rank_of shift width w ≤ rank_of shift width (later p q) =
      not_after shift width _ _ _ (ranked shift width w (later p q) fw high.covered) tests.2 in
      lies_on_of shift width w p q fw fp fq
      (between width (grid_point shift p) (grid_point shift q) (grid_point shift w) (in_grid shift width p fp) (in_grid shift width q fq)
      (in_grid shift width w fw)
      (omega (arith, low.has_rank, after)) (omega (arith, high.has_rank, before)) (omega (arith, side.is, flat)))

  to_test : LiesOn w p q → IsTrue (lies_on w p q)
  unfolding lies_on
  to_test o =
      let weights : OnByWeights (grid_point shift p) (grid_point shift q) (grid_point shift w) = on_by_weights_of shift width w p q fw fp fq o in
      let low : IsChosen shift width p q (earlier p q) (min (rank_of shift width p) (rank_of shift width q)) = earlier_is shift width p q fp fq in
      let high : IsChosen shift width p q (later p q) (max (rank_of shift width p) (rank_of shift width q)) = later_is shift width p q fp fq in
      let side : IsSide (orientation_of p q w) (grid_point shift p) (grid_point shift q) (grid_point shift w) = side_of shift width p q w fp fq fw in
      from_all_three _ _ _
      (is_zero (orientation_of p q w) (omega (arith, side.is, on_line _ _ _ weights)))
      (in_order shift width (earlier p q) w (point_cmp (earlier p q) w) (ranked shift width (earlier p q) w low.covered fw) (omega (
        arith,
        low.has_rank,
        on_between width _ _ _ weights,
      )))
      (in_order shift width w (later p q) (point_cmp w (later p q)) (ranked shift width w (later p q) fw high.covered) (omega (
        arith,
        high.has_rank,
        on_between width _ _ _ weights,
      )))

pub lying_on_decided : (w p q : Point) → IsTrue (lies_on w p q) ↔ LiesOn w p q
lying_on_decided w p q =
    let f : AreCovered (shift_for w w p q) (width_for w w p q) w w p q = are_covered w w p q in
    (from_test (shift_for w w p q) (width_for w w p q) w p q f.at_p f.at_r f.at_s, to_test (shift_for w w p q) (width_for w w p q) w p q f.at_p f.at_r f.at_s)
