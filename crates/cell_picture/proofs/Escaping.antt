-- An escaped text has no brackets of elements and no quotation marks.
use Rattle.std.proofs.Common.{◌≡◌, ℕ, ◌<◌, ◌+◌, ◌%◌, ◌≤◌, ◌^◌, ◌==◌, ◌&&◌, ◌||◌, Bool, true, false, not, cond, [], ◌∷◌, ◌++◌, nat_le, nat_lt, refl, sym}
use Rattle.std.proofs.Common.{subst, arith}
use Rattle.std.specs.List.{All}
use Rattle.std.specs.Prelude.{codes}
use Rattle.std.specs.Fmt.{decimal}
use Rattle.std.proofs.lemmas.Bool.{eqb-true, or_parts, true≢false}
use Rattle.std.proofs.lemmas.Bool.Decides.{nat_tests}
use Rattle.std.proofs.lemmas.List.Elements.{All-append, All-cons, All-head, All-nil, All-rest}
use Rattle.std.proofs.lemmas.Fmt.{decimal_by_steps}
use Rattle.cell_picture.specs.Escapes.{escaped, escaped_byte, is_markup, is_plain, referred}
use Rattle.cell_picture.specs.Laws.{EscapesLeaveNoMarkup, is_bracket}

abbrev IsClean : ℕ → Type 0
IsClean b = is_bracket b ≡ false

digit_clean : (d : ℕ) → 48 ≤ d → d ≤ 57 → is_bracket d ≡ false
digit_clean d low high = grind (arith, nat_tests)

decimal_clean : (n : ℕ) → n < 2 ^ 64 → All IsClean (decimal n)
decimal_clean n fits = decimal_by_steps (λ _ ds. All IsClean ds)
    (λ m small. All-cons IsClean (48 + m) [] (digit_clean (48 + m) (omega arith) (omega (arith, small))) (All-nil IsClean))
    (λ m ds large front. All-append IsClean ds ((48 + m % 10) ∷ []) front
    (All-cons IsClean (48 + m % 10) [] (digit_clean (48 + m % 10) (omega arith) (omega (arith, mod-lt m))) (All-nil IsClean)))
    n fits
  where
    mod-lt : (m : ℕ) → m % 10 < 10
    mod-lt m = omega arith

-- a printed byte that isn't markup is no bracket
printed : (low high markup : Bool) → (low && (high && not markup)) ≡ true → markup ≡ false
printed true true true h = sym h
printed true true false h = refl
printed true false markup h = absurd (true≢false (sym h))
printed false high markup h = absurd (true≢false (sym h))

plain_clean : (b : ℕ) → is_plain b ≡ true → is_bracket b ≡ false
plain_clean b plain = by (b == 10) refl plain
  where
    by : (feed : Bool) → (b == 10) ≡ feed → (feed || (nat_le 32 b && (nat_lt b 127 && not (is_markup b)))) ≡ true → is_bracket b ≡ false
    by true is h = subst (λ n. is_bracket n ≡ false) (sym (eqb-true b 10 is)) refl
    by false is h = (or_parts (b == 38) (is_bracket b) (printed (nat_le 32 b) (nat_lt b 127) (is_markup b) h)).1

byte_clean : (b : ℕ) → b < 256 → All IsClean (escaped_byte b)
byte_clean b fits = by (is_plain b) refl
  where
    small : referred b < 2 ^ 64
    small = grind (arith, nat_tests, fits)

    by : (plain : Bool) → is_plain b ≡ plain → All IsClean (cond plain (b ∷ []) (codes "&#" ++ decimal (referred b) ++ codes ";"))
    by true is = All-cons IsClean b [] (plain_clean b is) (All-nil IsClean)
    by false is =
        All-append IsClean (codes "&#" ++ decimal (referred b)) (codes ";")
        (All-append IsClean (codes "&#") (decimal (referred b))
        (All-cons IsClean 38 (35 ∷ []) refl (All-cons IsClean 35 [] refl (All-nil IsClean))) (decimal_clean (referred b) small))
        (All-cons IsClean 59 [] refl (All-nil IsClean))

pub clean : EscapesLeaveNoMarkup
clean [] all = All-nil IsClean
clean (b ∷ text) all =
    All-append IsClean (escaped_byte b) (escaped text) (byte_clean b (All-head (λ n. n < 256) b text all))
    (clean text (All-rest (λ n. n < 256) b text (b ∷ text) refl all))
