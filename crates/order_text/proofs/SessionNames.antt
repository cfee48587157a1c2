-- The session that an item names.
use Rattle.std.proofs.Common.{◌≡◌, ◌<◌, ◌≤◌, ◌+◌, ◌-◌, ◌^◌, ℕ, Bool, true, false, List, Some, None, length, arith, refl, sym, ◌∙◌, ap}
use Rattle.std.specs.Prelude.{nat_eq}
use Rattle.std.specs.Cmp.Lexicographic.{pointwise, bytes_decides}
use Rattle.std.specs.Fmt.{decimal}
use Rattle.std.proofs.lemmas.Fmt.{decimal_injective}
use Rattle.text_spec.specs.OrderLine.{session_of}
use Rattle.order_text.proofs.Ranges.{find-none, find-first}

abbrev pub spells : List ℕ → ℕ → Bool
spells word i = pointwise nat_eq (decimal i) word

by_not : (b : Bool) → (b ≡ true → ⊥) → b ≡ false
by_not true not = absurd (not refl)
by_not false not = refl

-- a number that the word doesn't spell
not_spelled : (word : List ℕ) (i : ℕ) → (decimal i ≡ word → ⊥) → spells word i ≡ false
not_spelled word i differs = by_not (spells word i) (λ same. differs ((bytes_decides (decimal i) word).0 same))

some_is : {X : Type 0} (x y : X) → Some x ≡ Some y → x ≡ y
some_is x y e = cc

none_is_not : {X : Type 0} (x : X) → None ≡ Some x → ⊥
none_is_not x e = cc

-- a word that spells no number of 32 bits names no session
pub session_of-none : (quotas word : List ℕ) → length quotas < 2 ^ 32 → ((n : ℕ) → n < 2 ^ 32 → decimal n ≡ word → None ≡ Some n)
    → session_of quotas word ≡ None
session_of-none quotas word few found =
    find-none (spells word) 1 (length quotas) (λ i below. not_spelled word (1 + i)
    (λ same. none_is_not (1 + i) (found (1 + i) (omega (arith, few, below)) same)))

-- a word that spells a number that is no session's names none
pub session_of-outside : (quotas word : List ℕ) (number : ℕ) → length quotas < 2 ^ 32 → ((n : ℕ) → n < 2 ^ 32 → decimal n ≡ word → Some number ≡ Some n)
    → ((i : ℕ) → i < length quotas → number ≡ 1 + i → ⊥) → session_of quotas word ≡ None
session_of-outside quotas word number few found outside =
    find-none (spells word) 1 (length quotas) (λ i below. not_spelled word (1 + i)
    (λ same. outside i below (some_is number (1 + i) (found (1 + i) (omega (arith, few, below)) same))))

-- a word that spells a session's number names it
pub session_of-inside : (quotas word : List ℕ) (number : ℕ) → length quotas < 2 ^ 32 → decimal number ≡ word → 1 ≤ number
    → number ≤ length quotas → session_of quotas word ≡ Some number
session_of-inside quotas word number few spelled above within =
    let e : 1 + (number - 1) ≡ number = omega (arith, above) in
    find-first (spells word) 1 (length quotas) (number - 1) (omega (arith, above, within))
    (ap (spells word) e ∙ (bytes_decides (decimal number) word).1 spelled)
    (λ j below. not_spelled word (1 + j) (λ same.
    let equal = decimal_injective (1 + j) number (omega (arith, few, within, below)) (omega (arith, few, within)) (same ∙ sym spelled) in
    omega (arith, equal, below, above)))
    ∙ ap Some e
