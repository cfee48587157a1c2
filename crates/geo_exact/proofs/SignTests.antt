-- The tests that the code makes of signs, as the definitions make them of determinants.
use Rattle.std.proofs.Common.{◌≡◌, Bool, arith, refl, sym, ◌∙◌, ap, ℤ, pos, negsuc, zero, suc, w8, FitsSigned}
use Rattle.std.specs.Int.{int_signum, cast_signed, cast_unsigned}
use Rattle.std.specs.Ordering.{int_eq}
use Rattle.std.proofs.lemmas.Bool.Decides.{nat_tests}
use Rattle.std.proofs.lemmas.Int.{ints, to_z-of_z}
use Rattle.geometry_spec.specs.Signs.{have_one_sign, are_zero}

-- ---- a sign in place of a number
one_sign_by_signs : (x y : ℤ) → have_one_sign (int_signum x) (int_signum y) ≡ have_one_sign x y
one_sign_by_signs (pos zero) (pos zero) = refl
one_sign_by_signs (pos zero) (pos (suc b)) = grind (arith, nat_tests)
one_sign_by_signs (pos (suc a)) (pos zero) = grind (arith, nat_tests)
one_sign_by_signs (pos (suc a)) (pos (suc b)) = grind (arith, nat_tests)
one_sign_by_signs (pos zero) (negsuc b) = refl
one_sign_by_signs (pos (suc a)) (negsuc b) = grind (arith, nat_tests)
one_sign_by_signs (negsuc a) (pos zero) = refl
one_sign_by_signs (negsuc a) (pos (suc b)) = grind (arith, nat_tests)
one_sign_by_signs (negsuc a) (negsuc b) = refl

zero_by_sign : (x : ℤ) → int_eq (int_signum x) (pos 0) ≡ int_eq x (pos 0)
zero_by_sign (pos zero) = refl
zero_by_sign (pos (suc a)) = grind (arith, nat_tests)
zero_by_sign (negsuc a) = refl

zeros_by_signs : (x y : ℤ) → are_zero (int_signum x) (int_signum y) ≡ are_zero x y
zeros_by_signs x y = rw (zero_by_sign x, zero_by_sign y) refl

-- ---- a sign that is passed as an i8
abbrev pub passed : ℤ → ℤ
passed z = cast_signed w8 (cast_unsigned w8 z)

sign_fits : (x : ℤ) → FitsSigned w8 (int_signum x)
sign_fits (pos n) = omega (arith, ints)
sign_fits (negsuc n) = omega (arith, ints)

passed_sign_of : (x : ℤ) → passed (int_signum x) ≡ int_signum x
passed_sign_of x = to_z-of_z w8 (int_signum x) (sign_fits x)

passed_sign : (x i : ℤ) → i ≡ int_signum x → passed i ≡ int_signum x
passed_sign x i e = ap passed e ∙ passed_sign_of x

-- ---- the test of the signs i and j of x and y answered `found`
pub one_sign_found : (x y i j : ℤ) (test found : Bool) → i ≡ int_signum x → j ≡ int_signum y → test ≡ have_one_sign (passed i) (passed j)
    → test ≡ found → have_one_sign x y ≡ found
one_sign_found x y i j test found e f g h =
    sym (one_sign_by_signs x y) ∙ (ap (λ z. have_one_sign z (int_signum y)) (sym (passed_sign x i e))
    ∙ (ap (λ z. have_one_sign (passed i) z) (sym (passed_sign y j f)) ∙ (sym g ∙ h)))

pub zeros_found : (x y i j : ℤ) (test found : Bool) → i ≡ int_signum x → j ≡ int_signum y → test ≡ are_zero (passed i) (passed j) → test ≡ found
    → are_zero x y ≡ found
zeros_found x y i j test found e f g h =
    sym (zeros_by_signs x y) ∙ (ap (λ z. are_zero z (int_signum y)) (sym (passed_sign x i e))
    ∙ (ap (λ z. are_zero (passed i) z) (sym (passed_sign y j f)) ∙ (sym g ∙ h)))

pub zero_found : (x i : ℤ) (test : Bool) → i ≡ int_signum x → test ≡ int_eq (passed i) (pos 0) → test ≡ int_eq x (pos 0)
zero_found x i test e g = g ∙ (ap (λ z. int_eq z (pos 0)) (passed_sign x i e) ∙ zero_by_sign x)
