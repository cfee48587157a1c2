-- A word as a number.
use Rattle.std.proofs.Common.{◌≡◌, ◌<◌, ◌^◌, ◌&&◌, ℕ, Bool, true, false, List, [], ◌∷◌, Option, Some, None, cond, refl, sym, ap, ◌∙◌, arith}
use Rattle.std.specs.Prelude.{IfSome, decimal, nat_eq, nat_lt}
use Rattle.std.specs.Cmp.Lexicographic.{same_text, pointwise}
use Rattle.std.specs.Str.Parse.{digits_value}
use Rattle.std.proofs.lemmas.Bool.Decides.{nat_tests}
use Rattle.std.proofs.lemmas.Fmt.{decimal_is_IsNumeral}
use Rattle.enc_top.specs.Words.{is_written_as, number_in}

itself : (n : ℕ) → nat_eq n n ≡ true
itself n = grind (arith, nat_tests)

pub same_as_itself : (text : List ℕ) → pointwise nat_eq text text ≡ true
same_as_itself [] = refl
same_as_itself (a ∷ text) = rw (itself a) (same_as_itself text)

below : (n limit : ℕ) → n < limit → nat_lt n limit ≡ true
below n limit less = grind (arith, nat_tests)

is_below : (n limit : ℕ) → nat_lt n limit ≡ true → n < limit
is_below n limit less = grind (arith, nat_tests)

-- a number's text is read as it
written : (n : ℕ) → n < 2 ^ 32 → number_in (decimal n) ≡ Some n
written n small =
    let value : digits_value 10 (decimal n) ≡ n = (decimal_is_IsNumeral n (omega (arith, small))).1 in
    ap (λ m. cond (nat_lt m (2 ^ 32) && is_written_as (decimal n) m) (Some m) None) value
    ∙ (rw (below n (2 ^ 32) small) (rw (same_as_itself (decimal n)) refl))

absent : (n : ℕ) → ◌≡◌ {A = Option ℕ} None (Some n) → ⊥
absent n e = cc

-- what spells no number is read as none
unwritten : (text : List ℕ) → ((n : ℕ) → n < 2 ^ 32 → decimal n ≡ text → ⊥) → number_in text ≡ None
unwritten text other = by (nat_lt m (2 ^ 32)) (is_written_as text m) refl refl
  where
    m : ℕ
    m = digits_value 10 text

    by : (fits is : Bool) → nat_lt m (2 ^ 32) ≡ fits → is_written_as text m ≡ is → cond (fits && is) (Some m) None ≡ None
    by false is fits_is is_is = refl
    by true false fits_is is_is = refl
    by true true fits_is is_is = absurd (other m (is_below m (2 ^ 32) fits_is) (same_text (decimal m) text (sym is_is)))

pub number_read : (text : List ℕ) (result : Option ℕ) → IfSome result (λ n. decimal n ≡ text) → IfSome result (λ n. n < 2 ^ 32)
    → ((n : ℕ) → n < 2 ^ 32 → decimal n ≡ text → result ≡ Some n) → result ≡ number_in text
number_read text (Some n) spelled small found = sym (written n small) ∙ ap number_in spelled
number_read text None spelled small found = sym (unwritten text (λ n fits is. absent n (found n fits is)))
