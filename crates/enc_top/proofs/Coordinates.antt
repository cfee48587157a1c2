-- The coordinate that a text is.
use Rattle.std.proofs.Common.{◌≡◌, ℕ, suc, ◌<◌, ◌^◌, ◌==◌, ◌&&◌, Bool, true, false, List, cond, Option, Some, None, refl}
use Rattle.std.proofs.Common.{sym, ap, ◌∙◌, ℤ, pos, negsuc, neg_ℤ, int_le, int_lt, FitsSigned, ne_eqb, w32, arith}
use Rattle.std.specs.Prelude.{IfSome, nat_eq, slice_index}
use Rattle.std.specs.Cmp.Lexicographic.{pointwise, same_text}
use Rattle.std.specs.Fmt.{decimal, signed_decimal}
use Rattle.std.specs.Str.Parse.{digits_value, signed_digits_value, starts_with_minus}
use Rattle.std.proofs.lemmas.Bool.{and_from, and_parts}
use Rattle.std.proofs.lemmas.Fmt.{decimal_is_IsNumeral}
use Rattle.std.proofs.lemmas.Int.{ints}
use Rattle.std.proofs.lemmas.Str.Parse.{digit_at}
use Rattle.enc_top.specs.Words.{coordinate_of, is_coordinate}
use Rattle.enc_top.proofs.Numbers.{same_as_itself}

-- ---- a number's text is read as the number
by_first : (first n : ℕ) (ds : List ℕ) → slice_index ds 0 ≡ first → (first == 45) ≡ false → (first == 43) ≡ false → digits_value 10 ds ≡ n
    → signed_digits_value 10 ds ≡ pos n
by_first first n ds is no_minus no_plus value =
    let minus : starts_with_minus ds ≡ false = ap (λ c. c == 45) is ∙ no_minus in
    let plus : (slice_index ds 0 == 43) ≡ false = ap (λ c. c == 43) is ∙ no_plus in
    rw (minus, plus) (ap pos value)

pub read_back : (z : ℤ) → FitsSigned w32 z → signed_digits_value 10 (signed_decimal z) ≡ z
read_back (pos n) fits =
    let small : n < 2 ^ 64 = omega (arith, ints, fits) in
    let numeral = decimal_is_IsNumeral n small in
    let first = digit_at (decimal n) 0 numeral.0.1 numeral.0.0 in
    by_first (slice_index (decimal n) 0) n (decimal n) refl (ne_eqb _ _ (λ e. omega (arith, e, first))) (ne_eqb _ _ (λ e. omega (arith, e, first))) numeral.1
read_back (negsuc n) fits =
    let small : suc n < 2 ^ 64 = omega (arith, ints, fits) in
    ap (λ m. neg_ℤ (pos m)) (decimal_is_IsNumeral (suc n) small).1

-- ---- the tests
is_in_range : (z : ℤ) → FitsSigned w32 z → is_coordinate z ≡ true
is_in_range z fits = and_from (int_le (neg_ℤ (pos (2 ^ 31))) z) (int_lt z (pos (2 ^ 31))) (grind (arith, ints)) (grind (arith, ints))

fits_range : (z : ℤ) → is_coordinate z ≡ true → FitsSigned w32 z
fits_range z is =
    let tests = and_parts (int_le (neg_ℤ (pos (2 ^ 31))) z) (int_lt z (pos (2 ^ 31))) is in
    omega (arith, ints, tests.0, tests.1)

-- a number that has the text is the coordinate
pub coordinate_is : (z : ℤ) (text : List ℕ) → FitsSigned w32 z → signed_decimal z ≡ text → Some z ≡ coordinate_of text
coordinate_is z text fits is =
    let own : coordinate_of (signed_decimal z) ≡ Some z = rw (read_back z fits) (rw (is_in_range z fits, same_as_itself (signed_decimal z)) refl) in
    sym own ∙ ap coordinate_of is

-- where no number has the text there is none
none_by : (z : ℤ) (text : List ℕ) (found : Bool) → (is_coordinate z && pointwise nat_eq (signed_decimal z) text) ≡ found
    → (FitsSigned w32 z → signed_decimal z ≡ text → None ≡ Some z) → None ≡ cond found (Some z) None
none_by z text true is other = let parts = and_parts (is_coordinate z) _ is in
    other (fits_range z parts.0) (same_text (signed_decimal z) text (sym parts.1))
none_by z text false is other = refl

pub no_coordinate : (text : List ℕ) → ((z : ℤ) → FitsSigned w32 z → signed_decimal z ≡ text → None ≡ Some z) → None ≡ coordinate_of text
no_coordinate text other =
    let z = signed_digits_value 10 text in none_by z text (is_coordinate z && pointwise nat_eq (signed_decimal z) text) refl (other z)

pub coordinate_read : (text : List ℕ) (result : Option ℤ) → IfSome result (λ z. signed_decimal z ≡ text) → IfSome result (λ z. FitsSigned w32 z)
    → ((z : ℤ) → FitsSigned w32 z → signed_decimal z ≡ text → result ≡ Some z) → result ≡ coordinate_of text
coordinate_read text (Some z) spelled fits found = coordinate_is z text fits spelled
coordinate_read text None spelled fits found = no_coordinate text found
