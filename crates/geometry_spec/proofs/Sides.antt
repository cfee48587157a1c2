-- What the signs of the four determinants tell: no common point, exactly one, or that all four ends lie on one line.
use Rattle.std.proofs.Common.{◌≡◌, ℕ, ◌+◌, ◌*◌, ◌-◌, ◌<◌, ◌≤◌, true, false, arith, refl, sym, ⊎_elim, inl, inr, ◌⊎◌, ℤ, pos, negsuc, zero, suc}
use Rattle.std.proofs.lemmas.Bool.{cases_order}
use Rattle.std.proofs.lemmas.Bool.Decides.{nat_tests}
use borrow.Author.Differences.{up, down}
use Rattle.geometry_spec.specs.Points.{Point, orientation_of}
use Rattle.geometry_spec.specs.Signs.{have_one_sign, are_zero}
use Rattle.geometry_spec.proofs.Weights.{GridPoint, left_sum, right_sum, Weights, IsSameWeighted, four_determinants, determinants_cancel, none_to_the_right}
use Rattle.geometry_spec.proofs.Weights.{none_to_the_left, crossing_leftwards, crossing_rightwards, same_proportion, same_by_proportion}
use Rattle.geometry_spec.proofs.Shift.{IsCovered, grid_point, shifted_orientation}
use Rattle.geometry_spec.proofs.ShiftedPoints.{AreCovered}

-- ---- what the tests say of two numbers
pub record ArePositive (x y : ℤ) : Type 0 where
  pub first : down x < up x
  pub second : down y < up y

pub record AreNegative (x y : ℤ) : Type 0 where
  pub first : up x < down x
  pub second : up y < down y

one_sign_is : (x y : ℤ) → have_one_sign x y ≡ true → ArePositive x y ⊎ AreNegative x y
one_sign_is (pos a) (pos b) e = inl (record { first = grind (arith, nat_tests); second = grind (arith, nat_tests) })
one_sign_is (pos a) (negsuc b) e = absurd (grind (arith, nat_tests))
one_sign_is (negsuc a) (pos b) e = absurd (grind (arith, nat_tests))
one_sign_is (negsuc a) (negsuc b) e = inr (record { first = omega arith; second = omega arith })

-- the first isn't negative and the second isn't positive
pub record IsFall (x y : ℤ) : Type 0 where
  pub first : down x ≤ up x
  pub second : up y ≤ down y

not_one_sign_is : (x y : ℤ) → have_one_sign x y ≡ false → IsFall x y ⊎ IsFall y x
not_one_sign_is (pos zero) (pos b) e = inr (record { first = omega arith; second = omega arith })
not_one_sign_is (pos (suc a)) (pos zero) e = inl (record { first = omega arith; second = omega arith })
not_one_sign_is (pos (suc a)) (pos (suc b)) e = absurd (grind (arith, nat_tests))
not_one_sign_is (pos a) (negsuc b) e = inl (record { first = omega arith; second = omega arith })
not_one_sign_is (negsuc a) (pos b) e = inr (record { first = omega arith; second = omega arith })
not_one_sign_is (negsuc a) (negsuc b) e = absurd (cc)

are_zero_is : (x y : ℤ) → are_zero x y ≡ true → (up x ≡ down x) × (up y ≡ down y)
are_zero_is (pos zero) (pos zero) e = (refl, refl)
are_zero_is (pos zero) (pos (suc b)) e = absurd (grind (arith, nat_tests))
are_zero_is (pos zero) (negsuc b) e = absurd (grind (arith, nat_tests))
are_zero_is (pos (suc a)) y e = absurd (grind (arith, nat_tests))
are_zero_is (negsuc a) y e = absurd (grind (arith, nat_tests))

not_zero_is : (x y : ℤ) → are_zero x y ≡ false → up x ≡ down x → up y ≡ down y → ⊥
not_zero_is (pos zero) (pos zero) e f g = cc
not_zero_is (pos zero) (pos (suc b)) e f g = omega arith
not_zero_is (pos zero) (negsuc b) e f g = omega arith
not_zero_is (pos (suc a)) y e f g = omega arith
not_zero_is (negsuc a) y e f g = omega arith

-- ---- a determinant's sign, read off its two sums
pub record IsSide (z : ℤ) (a b c : GridPoint) : Type 0 where
  pub is : up z + right_sum a b c ≡ down z + left_sum a b c

-- r and s strictly on one side of p q
pub none_on_one_side : (p q r s : GridPoint) (x y : ℤ) → IsSide x p q r → IsSide y p q s → have_one_sign x y ≡ true → Weights p q r s → ⊥
none_on_one_side p q r s x y g h e w = ⊎_elim
    (λ k. none_to_the_left p q r s (omega (arith, g.is, k)) (omega (arith, h.is, k)) w)
    (λ k. none_to_the_right p q r s (omega (arith, g.is, k)) (omega (arith, h.is, k)) w)
    (one_sign_is x y e)

-- ---- the four determinants of two segments
pub record FourSides (p q r s : GridPoint) (of_r of_s of_p of_q : ℤ) : Type 0 where
  pub r_side : IsSide of_r p q r
  pub s_side : IsSide of_s p q s
  pub p_side : IsSide of_p r s p
  pub q_side : IsSide of_q r s q

some_weight : (a b c d : ℕ) → b ≤ a → c ≤ d → (a ≡ b → c ≡ d → ⊥) → 0 < (d - c) + (a - b)
some_weight a b c d k l differ = grind arith

across_leftwards : (p q r s : GridPoint) (i j k l : ℤ) → FourSides p q r s i j k l → IsFall j i → IsFall k l → (up i ≡ down i → up j ≡ down j → ⊥)
    → Weights p q r s
across_leftwards p q r s i j k l f g h differ = crossing_leftwards p q r s (down l - up l) (up k - down k) (up j - down j) (down i - up i)
    (some_weight (down i) (up i) (down j) (up j) g.second g.first (λ e e'. differ (sym e) (sym e')))
    (omega (arith, f.r_side.is, g)) (omega (arith, f.s_side.is, g)) (omega (arith, f.p_side.is, h)) (omega (arith, f.q_side.is, h))

across_rightwards : (p q r s : GridPoint) (i j k l : ℤ) → FourSides p q r s i j k l → IsFall i j → IsFall l k → (up i ≡ down i → up j ≡ down j → ⊥)
    → Weights p q r s
across_rightwards p q r s i j k l f g h differ = crossing_rightwards p q r s (up l - down l) (down k - up k) (down j - up j) (up i - down i)
    (some_weight (up i) (down i) (up j) (down j) g.first g.second differ)
    (omega (arith, f.r_side.is, g)) (omega (arith, f.s_side.is, g)) (omega (arith, f.p_side.is, h)) (omega (arith, f.q_side.is, h))

across : (p q r s : GridPoint) (i j k l : ℤ) → FourSides p q r s i j k l → IsFall i j ⊎ IsFall j i → IsFall k l ⊎ IsFall l k
    → (up i ≡ down i → up j ≡ down j → ⊥) → Weights p q r s
across p q r s i j k l f (inr g) (inl h) differ = across_leftwards p q r s i j k l f g h differ
across p q r s i j k l f (inl g) (inr h) differ = across_rightwards p q r s i j k l f g h differ
across p q r s i j k l f (inl g) (inl h) differ = absurd (differ
    (omega (arith, four_determinants p q r s, f.r_side.is, f.s_side.is, f.p_side.is, f.q_side.is, g, h))
    (omega (arith, four_determinants p q r s, f.r_side.is, f.s_side.is, f.p_side.is, f.q_side.is, g, h)))
across p q r s i j k l f (inr g) (inr h) differ = absurd (differ
    (omega (arith, four_determinants p q r s, f.r_side.is, f.s_side.is, f.p_side.is, f.q_side.is, g, h))
    (omega (arith, four_determinants p q r s, f.r_side.is, f.s_side.is, f.p_side.is, f.q_side.is, g, h)))

-- neither segment strictly on one side of the other's line, and not both r and s on the line of p q
pub some_across : (p q r s : GridPoint) (i j k l : ℤ) → FourSides p q r s i j k l → have_one_sign i j ≡ false → have_one_sign k l ≡ false
    → are_zero i j ≡ false → Weights p q r s
some_across p q r s i j k l f e g n = across p q r s i j k l f (not_one_sign_is i j e) (not_one_sign_is k l g) (not_zero_is i j n)

-- ---- one common point alone
one_proportion : (b n c k f g f' g' : ℕ) → b * f + n * f' ≡ b * g + n * g' → c * f + k * f' ≡ c * g + k * g' → (f ≡ g → f' ≡ g' → ⊥) → b * k ≡ c * n
one_proportion b n c k f g f' g' h i differ = ⊎_elim
    (λ e. ⊎_elim
    (λ e'. absurd (differ e e'))
    (λ either. ⊎_elim
    (λ l. omega (arith, same_proportion n b k c g' f' g f (omega (arith, h)) (omega (arith, i)) l))
    (λ l. omega (arith, same_proportion n b k c f' g' f g (omega (arith, h)) (omega (arith, i)) l))
    either)
    (cases_order f' g'))
    (λ either. ⊎_elim
    (λ l. same_proportion b n c k g f g' f' (sym h) (sym i) l)
    (λ l. same_proportion b n c k f g f' g' h i l)
    either)
    (cases_order f g)

pub one_across : (p q r s : GridPoint) (i j : ℤ) → IsSide i p q r → IsSide j p q s → are_zero i j ≡ false → (v w : Weights p q r s)
    → IsSameWeighted p q v.a v.m w.a w.m
one_across p q r s i j g h n v w = same_by_proportion p q r s v w
    (one_proportion v.b v.n w.b w.n _ _ _ _ (determinants_cancel p q r s v) (determinants_cancel p q r s w)
    (λ e f. not_zero_is i j n (omega (arith, g.is, e)) (omega (arith, h.is, f))))

-- ---- all on one line
pub record AreOnOneLine (p q r s : GridPoint) : Type 0 where
  pub r_on : right_sum p q r ≡ left_sum p q r
  pub s_on : right_sum p q s ≡ left_sum p q s
  pub p_on : right_sum r s p ≡ left_sum r s p
  pub q_on : right_sum r s q ≡ left_sum r s q

all_on_line : (p q r s : GridPoint) (i j k l : ℤ) → FourSides p q r s i j k l → (up i ≡ down i) × (up j ≡ down j) → IsFall k l ⊎ IsFall l k
    → AreOnOneLine p q r s
all_on_line p q r s i j k l f z (inl h) = record {
  r_on = omega (arith, f.r_side.is, z);
  s_on = omega (arith, f.s_side.is, z);
  p_on = omega (arith, four_determinants p q r s, f.r_side.is, f.s_side.is, f.p_side.is, f.q_side.is, z, h);
  q_on = omega (arith, four_determinants p q r s, f.r_side.is, f.s_side.is, f.p_side.is, f.q_side.is, z, h);
}
all_on_line p q r s i j k l f z (inr h) = record {
  r_on = omega (arith, f.r_side.is, z);
  s_on = omega (arith, f.s_side.is, z);
  p_on = omega (arith, four_determinants p q r s, f.r_side.is, f.s_side.is, f.p_side.is, f.q_side.is, z, h);
  q_on = omega (arith, four_determinants p q r s, f.r_side.is, f.s_side.is, f.p_side.is, f.q_side.is, z, h);
}

-- r and s on the line of p q, and p and q not strictly on one side of r s
pub on_one_line : (p q r s : GridPoint) (i j k l : ℤ) → FourSides p q r s i j k l → have_one_sign k l ≡ false → are_zero i j ≡ true
    → AreOnOneLine p q r s
on_one_line p q r s i j k l f g z = all_on_line p q r s i j k l f (are_zero_is i j z) (not_one_sign_is k l g)

-- ---- the determinants of points before the shift
pub side_of : (shift width : ℕ) (a b c : Point) → IsCovered shift width a → IsCovered shift width b → IsCovered shift width c
    → IsSide (orientation_of a b c) (grid_point shift a) (grid_point shift b) (grid_point shift c)
side_of shift width a b c fa fb fc = record { is = shifted_orientation shift width a b c fa fb fc }

pub four_sides : (shift width : ℕ) (p q r s : Point) → AreCovered shift width p q r s
    → FourSides (grid_point shift p) (grid_point shift q) (grid_point shift r) (grid_point shift s) (orientation_of p q r)
    (orientation_of p q s) (orientation_of r s p) (orientation_of r s q)
four_sides shift width p q r s f = record {
  r_side = side_of shift width p q r f.at_p f.at_q f.at_r;
  s_side = side_of shift width p q s f.at_p f.at_q f.at_s;
  p_side = side_of shift width r s p f.at_r f.at_s f.at_p;
  q_side = side_of shift width r s q f.at_r f.at_s f.at_q;
}
