-- What the code finds of boxes, determinants and the order of points, as the definitions say it.
use Rattle.std.proofs.Common.{◌≡◌, Bool, true, false, ◌&&◌, refl, sym, ◌∙◌, ap, subst, IsTrue, Ordering}
use Rattle.std.specs.Prelude.{pos, ◌↔◌}
use Rattle.std.specs.Ordering.{int_eq, is_le}
use Rattle.geometry_spec.specs.Points.{Point, point_cmp, orientation_of}
use Rattle.geometry_spec.specs.Segments.{LiesOn}
use Rattle.geometry_spec.specs.Signs.{have_one_sign, are_zero, earlier, later, case_from_to, lies_on, meeting_of, meeting_on_line}
use Rattle.geometry_spec.specs.Boxes.{box_of, are_disjoint}
use Rattle.geometry_spec.specs.declared.segment.MeetCase.TheVariants.{Apart, At}
use Rattle.geometry_spec.specs.declared.tile.Box4.{Box4}
use Rattle.geometry_spec.proofs.LyingOn.{lying_on_decided}

-- ---- a point and a segment
-- the test of the line, and of the order of points, are the test of lying on the segment
pub on_line_and_between : (w p q from to : Point) (line between : Bool) → from ≡ earlier p q → to ≡ later p q
    → line ≡ int_eq (orientation_of p q w) (pos 0) → between ≡ (is_le (point_cmp from w) && is_le (point_cmp w to))
    → (line && between) ≡ lies_on w p q
unfolding lies_on
on_line_and_between w p q from to line between ef et el eb =
    ap (λ t. t && between) el
    ∙ ap (λ t. int_eq (orientation_of p q w) (pos 0) && t)
    (eb ∙ (ap (λ x. is_le (point_cmp x w) && is_le (point_cmp w to)) ef ∙ ap (λ x. is_le (point_cmp (earlier p q) w) && is_le (point_cmp w x)) et))

-- the test of lying on the segment says whether the point does
pub lying_found : (w p q : Point) (test : Bool) → test ≡ lies_on w p q → IsTrue test ↔ LiesOn w p q
lying_found w p q test e = subst (λ t. IsTrue t ↔ LiesOn w p q) (sym e) (lying_on_decided w p q)

-- ---- the cases of a meeting
pub disjoint_found : (p q r s : Point) (a b : Box4) (test : Bool) → a ≡ box_of p q → b ≡ box_of r s → test ≡ are_disjoint a b → test ≡ true
    → IsTrue (are_disjoint (box_of p q) (box_of r s))
disjoint_found p q r s a b test ea eb e found = sym (ap (λ x. are_disjoint x b) ea ∙ ap (λ x. are_disjoint (box_of p q) x) eb) ∙ (sym e ∙ found)

pub on_line_found : (p q r s a b c d from to : Point) (o : Ordering) → a ≡ earlier p q → b ≡ earlier r s → from ≡ later a b → c ≡ later p q
    → d ≡ later r s → to ≡ earlier c d → o ≡ point_cmp from to
    → case_from_to o ≡ meeting_on_line p q r s
on_line_found p q r s a b c d from to o ea eb ef ec ed et eo =
    let start : from ≡ later (earlier p q) (earlier r s) = ef ∙ (ap (λ x. later x b) ea ∙ ap (λ x. later (earlier p q) x) eb) in
    let end : to ≡ earlier (later p q) (later r s) = et ∙ (ap (λ x. earlier x d) ec ∙ ap (λ x. earlier (later p q) x) ed) in
    ap case_from_to (eo ∙ (ap (λ x. point_cmp x to) start ∙ ap (λ x. point_cmp (later (earlier p q) (earlier r s)) x) end))

module _ (p q r s : Point) where
  pub apart_by_first : have_one_sign (orientation_of p q r) (orientation_of p q s) ≡ true → Apart ≡ meeting_of p q r s
  unfolding meeting_of
  apart_by_first first = rw first refl

  pub apart_by_second : have_one_sign (orientation_of p q r) (orientation_of p q s) ≡ false
      → have_one_sign (orientation_of r s p) (orientation_of r s q) ≡ true → Apart ≡ meeting_of p q r s
  unfolding meeting_of
  apart_by_second first second = rw (first, second) refl

  pub all_on_line : have_one_sign (orientation_of p q r) (orientation_of p q s) ≡ false
      → have_one_sign (orientation_of r s p) (orientation_of r s q) ≡ false → are_zero (orientation_of p q r) (orientation_of p q s) ≡ true
      → meeting_on_line p q r s ≡ meeting_of p q r s
  unfolding meeting_of
  all_on_line first second line = rw (first, second, line) refl

  pub across : have_one_sign (orientation_of p q r) (orientation_of p q s) ≡ false
      → have_one_sign (orientation_of r s p) (orientation_of r s q) ≡ false → are_zero (orientation_of p q r) (orientation_of p q s) ≡ false
      → At ≡ meeting_of p q r s
  unfolding meeting_of
  across first second line = rw (first, second, line) refl
