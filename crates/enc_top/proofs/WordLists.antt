-- The words of a call, one by one.
use Rattle.std.proofs.Common.{◌≡◌, ℕ, Bool, true, false, not, List, [], ◌∷◌, length, map, get_or, String, Global, string_bytes, arith, sym, refl}
use Rattle.std.specs.Prelude.{nat_eq}
use Rattle.std.specs.Cmp.Lexicographic.{same_text, pointwise}

when_not_false : (b : Bool) → false ≡ not b → true ≡ b
when_not_false true e = refl
when_not_false false e = sym e

-- two texts that don't differ
pub same_from_ne : (x y : List ℕ) → false ≡ not (pointwise nat_eq x y) → x ≡ y
same_from_ne x y e = same_text x y (when_not_false _ e)

-- two words
pub two_words : (words : List (String Global)) (first name : String Global) → length words ≡ 2 → first ≡ get_or words 0 first → name ≡ get_or words 1 name
    → map string_bytes words ≡ string_bytes first ∷ string_bytes name ∷ []
two_words [] first name two is_first is_name = absurd (omega arith)
two_words (a ∷ []) first name two is_first is_name = absurd (omega arith)
two_words (a ∷ b ∷ []) first name two is_first is_name = cc
two_words (a ∷ b ∷ d ∷ rest) first name two is_first is_name = absurd (omega arith)

-- three words
pub three_words : (words : List (String Global)) (first second third : String Global) → length words ≡ 3 → first ≡ get_or words 0 first
    → second ≡ get_or words 1 second → third ≡ get_or words 2 third
    → map string_bytes words ≡ string_bytes first ∷ string_bytes second ∷ string_bytes third ∷ []
three_words [] first second third three is_first is_second is_third = absurd (omega arith)
three_words (a ∷ []) first second third three is_first is_second is_third = absurd (omega arith)
three_words (a ∷ b ∷ []) first second third three is_first is_second is_third = absurd (omega arith)
three_words (a ∷ b ∷ d ∷ []) first second third three is_first is_second is_third =
    λ i. string_bytes (sym is_first i) ∷ string_bytes (sym is_second i) ∷ string_bytes (sym is_third i) ∷ []
three_words (a ∷ b ∷ d ∷ e ∷ rest) first second third three is_first is_second is_third = absurd (omega arith)
