-- Attributes that are found by their codes.
use Rattle.std.proofs.Common.{◌≡◌, ◌<◌, ◌≤◌, ◌+◌, ◌==◌, ◌&&◌, ℕ, zero, suc, Bool, true, false, cond, List, [], ◌∷◌, ◌++◌, length, set, refl, sym, ap, ◌∙◌}
use Rattle.std.proofs.Common.{Option, Some, None, option_to_list, subst, arith, nat_lt}
use Rattle.std.specs.List.{position_or_len}
use Rattle.std.specs.Borrow.{Bor}
use Rattle.std.specs.Option.{option_copied}
use Rattle.std.specs.Prelude.{MatchOption}
use Rattle.std.specs.BTreeSet.{BTreeSet, contains, IsKeyRangeOf}
use Rattle.std.specs.Ordering.{nat_cmp, ordering_then, is_eq, is_gt}
use Rattle.std.specs.declared.cmp.Ordering.{Ordering}
use Rattle.std.specs.declared.cmp.Ordering.TheVariants.{Less, Equal, Greater}
use Rattle.std.specs.declared.ops.Bound.TheVariants.{Included, Unbounded}
use Rattle.std.proofs.lemmas.Bool.{eqb-true, false_from_ne_true, lt-ltb, ne_eqb}
use Rattle.std.proofs.lemmas.Bool.Decides.{nat_tests}
use Rattle.std.proofs.lemmas.List.Concat.{flat_map-append}
use Rattle.s57_types.specs.declared.record.Attr.{Attr}
use Rattle.update_spec.specs.UpdatedAttributes.{is_delete_value, place_of_code, with_given, with_place, without_place}
use Rattle.update_apply.specs.CodedAttributes.{AreIndexed, IsFirst, IsNext, has_code, place_order, present, stands_at}
use Rattle.update_apply.specs.declared.coded.CodedAttrs.{CodedAttrs}

-- tests of numbers
suc_lt : (m n : ℕ) → nat_lt (suc m) (suc n) ≡ nat_lt m n
suc_lt m n = grind (arith, nat_tests)

suc_eq : (m n : ℕ) → (suc m == suc n) ≡ (m == n)
suc_eq m n = grind (arith, nat_tests)

zero_eq-suc : (n : ℕ) → (0 == suc n) ≡ false
zero_eq-suc n = ne_eqb 0 (suc n) (λ is. absurd (omega (arith, is)))

suc_eq-zero : (n : ℕ) → (suc n == 0) ≡ false
suc_eq-zero n = ne_eqb (suc n) 0 (λ is. absurd (omega (arith, is)))

-- how far the first attribute of a code stands, if one does
abbrev far : ℕ → List Attr → ℕ
far code attrs = position_or_len (λ (a : Attr). a.code == code) attrs

abbrev is_near : ℕ → List Attr → Bool
is_near code attrs = nat_lt (far code attrs) (length attrs)

-- where it stands in a list with one attribute more in front
place_here : (code : ℕ) (b : Attr) (rest : List Attr) → (b.code == code) ≡ true → place_of_code code (b ∷ rest) ≡ Some 0
place_here code b rest here = rw here (ap (λ near. cond near (Some 0) None) (lt-ltb 0 (suc (length rest)) (omega arith)))

place_behind : (code : ℕ) (b : Attr) (rest : List Attr) → (b.code == code) ≡ false
    → place_of_code code (b ∷ rest) ≡ cond (is_near code rest) (Some (suc (far code rest))) None
place_behind code b rest other =
    let one : 1 + far code rest ≡ suc (far code rest) = omega arith in
    rw other (ap (λ n. cond (nat_lt n (suc (length rest))) (Some n) None) one
    ∙ ap (λ near. cond near (Some (suc (far code rest))) None) (suc_lt (far code rest) (length rest)))

behind_with : (b a : Attr) (rest : List Attr) (found : Bool) (n : ℕ)
    → with_place (cond found (Some (suc n)) None) a (b ∷ rest) ≡ b ∷ with_place (cond found (Some n) None) a rest
behind_with b a rest true n = refl
behind_with b a rest false n = refl

behind_without : (b : Attr) (rest : List Attr) (found : Bool) (n : ℕ)
    → without_place (cond found (Some (suc n)) None) (b ∷ rest) ≡ b ∷ without_place (cond found (Some n) None) rest
behind_without b rest true n = refl
behind_without b rest false n = refl

behind_none : (found : Bool) (n : ℕ) → cond found (Some n) None ≡ None → cond found (Some (suc n)) None ≡ None
behind_none true n is = absurd cc
behind_none false n is = refl

later : (code : ℕ) (s : Option Attr) (slots : List (Option Attr)) (k : ℕ) → IsFirst code (s ∷ slots) (Some (suc k)) → IsFirst code slots (Some k)
later code s slots k is = (is.0, λ j below. is.1 (suc j) (omega (arith, below)))

-- the first attribute of a code, replaced
pub replaced : (code : ℕ) (slots : List (Option Attr)) (k : ℕ) (a : Attr) → IsFirst code slots (Some k)
    → present (set slots k (Some a)) ≡ with_place (place_of_code code (present slots)) a (present slots)
replaced code [] k a is = absurd cc
replaced code (None ∷ slots) zero a is = absurd cc
replaced code (Some b ∷ slots) zero a is = sym (ap (λ place. with_place place a (b ∷ present slots)) (place_here code b (present slots) is.0))
replaced code (None ∷ slots) (suc k) a is = replaced code slots k a (later code None slots k is)
replaced code (Some b ∷ slots) (suc k) a is =
    ap (λ rest. b ∷ rest) (replaced code slots k a (later code (Some b) slots k is))
    ∙ sym (ap (λ place. with_place place a (b ∷ present slots)) (place_behind code b (present slots) (is.1 0 (omega arith)))
    ∙ behind_with b a (present slots) (is_near code (present slots)) (far code (present slots)))

-- the same, taken away
pub taken : (code : ℕ) (slots : List (Option Attr)) (k : ℕ) → IsFirst code slots (Some k)
    → present (set slots k None) ≡ without_place (place_of_code code (present slots)) (present slots)
taken code [] k is = absurd cc
taken code (None ∷ slots) zero is = absurd cc
taken code (Some b ∷ slots) zero is = sym (ap (λ place. without_place place (b ∷ present slots)) (place_here code b (present slots) is.0))
taken code (None ∷ slots) (suc k) is = taken code slots k (later code None slots k is)
taken code (Some b ∷ slots) (suc k) is =
    ap (λ rest. b ∷ rest) (taken code slots k (later code (Some b) slots k is))
    ∙ sym (ap (λ place. without_place place (b ∷ present slots)) (place_behind code b (present slots) (is.1 0 (omega arith)))
    ∙ behind_without b (present slots) (is_near code (present slots)) (far code (present slots)))

-- an attribute of a code that isn't there
pub missing : (code : ℕ) (slots : List (Option Attr)) → IsFirst code slots None → place_of_code code (present slots) ≡ None
missing code [] is = refl
missing code (None ∷ slots) is = missing code slots (λ k. is (suc k))
missing code (Some b ∷ slots) is = place_behind code b (present slots) (is 0)
    ∙ behind_none (is_near code (present slots)) (far code (present slots)) (missing code slots (λ k. is (suc k)))

pub put_last : (slots : List (Option Attr)) (a : Attr) → present (slots ++ (Some a ∷ [])) ≡ present slots ++ (a ∷ [])
put_last slots a = flat_map-append option_to_list slots (Some a ∷ [])

-- what is given at a lexical level, by the place of the first attribute of its code
pub deleted : (level : ℕ) (slots : List (Option Attr)) (given : Attr) → is_delete_value level given.value ≡ true
    → with_given level (present slots) given ≡ without_place (place_of_code given.code (present slots)) (present slots)
unfolding with_given
deleted level slots given is = rw is refl

pub changed : (level : ℕ) (slots : List (Option Attr)) (given : Attr) → is_delete_value level given.value ≡ false
    → with_given level (present slots) given ≡ with_place (place_of_code given.code (present slots)) given (present slots)
unfolding with_given
changed level slots given is = rw is refl

-- the order of codes and places
is_eq-nat_cmp : (m n : ℕ) → is_eq (nat_cmp m n) ≡ (m == n)
is_eq-nat_cmp m n = grind (arith, nat_tests)

is_eq-then : (a b : Ordering) → is_eq (ordering_then a b) ≡ (is_eq a && is_eq b)
is_eq-then Less b = refl
is_eq-then Equal b = refl
is_eq-then Greater b = refl

is_eq-place_order : (a b : ℕ × ℕ) → is_eq (place_order a b) ≡ ((a.0 == b.0) && (a.1 == b.1))
is_eq-place_order a b = is_eq-then (nat_cmp a.0 b.0) (nat_cmp a.1 b.1)
    ∙ ap (λ s. s && is_eq (nat_cmp a.1 b.1)) (is_eq-nat_cmp a.0 b.0) ∙ ap (λ s. (a.0 == b.0) && s) (is_eq-nat_cmp a.1 b.1)

at_most : (a b : ℕ × ℕ) → is_gt (place_order a b) ≡ false → (a.0 ≤ b.0) × (a.0 ≡ b.0 → a.1 ≤ b.1)
at_most a b is = (grind (arith, nat_tests), λ same. grind (arith, nat_tests))

from_start : (code k : ℕ) → is_gt (place_order (code, 0) (code, k)) ≡ false
from_start code k = grind (arith, nat_tests)

-- the first that a range from a code on has
module _ (places : BTreeSet (ℕ × ℕ)) (code : ℕ) where
  pub none_next : IsKeyRangeOf place_order (Included (code, 0)) Unbounded places [] → IsNext places code None
  none_next is = λ k. is.5 refl (code, k) (from_start code k, tt)

  pub one_next : (found : ℕ × ℕ) (rest : List (ℕ × ℕ)) → IsKeyRangeOf place_order (Included (code, 0)) Unbounded places (found ∷ rest)
      → IsNext places code (Some found)
  one_next found rest is =
      let first = is.1 in
      (first.1, (at_most (code, 0) found first.0.0).0, λ k stands. at_most found (code, k) (is.2 (code, k) (from_start code k, tt) stands))

  pub next_found : (range rest : List (ℕ × ℕ)) (got : Option (Bor (ℕ × ℕ))) (found : Option (ℕ × ℕ))
      → IsKeyRangeOf place_order (Included (code, 0)) Unbounded places range
      → MatchOption got ((range ≡ []) × (rest ≡ [])) (λ x. range ≡ x.now ∷ rest) → found ≡ option_copied got → IsNext places code found
  next_found range rest None found is empty copied =
      subst (IsNext places code) (sym copied) (none_next (subst (IsKeyRangeOf place_order (Included (code, 0)) Unbounded places) empty.0 is))
  next_found range rest (Some x) found is one copied =
      subst (IsNext places code) (sym copied) (one_next x.now rest (subst (IsKeyRangeOf place_order (Included (code, 0)) Unbounded places) one is))

-- the first attribute of a code
module _ (coded : CodedAttrs) (indexed : AreIndexed coded) (code : ℕ) where
  pub none_first : IsNext coded.places code None → IsFirst code coded.slots.items None
  none_first is k = sym (indexed code k) ∙ is k

  pub one_first : (found : ℕ × ℕ) → IsNext coded.places code (Some found) → found.0 ≡ code → IsFirst code coded.slots.items (Some found.1)
  one_first found is same = (
    sym (indexed code found.1) ∙ ap (λ c. contains place_order coded.places (c, found.1)) (sym same) ∙ is.0,
    λ j below. false_from_ne_true (stands_at code j coded.slots.items) (λ stands.
        omega (arith, (is.2 j (indexed code j ∙ stands)).1 same, below)),
  )

  pub other_first : (found : ℕ × ℕ) → IsNext coded.places code (Some found) → (found.0 == code) ≡ false → IsFirst code coded.slots.items None
  other_first found is other k = false_from_ne_true (stands_at code k coded.slots.items) (λ stands.
      let least = (is.2 k (indexed code k ∙ stands)).0 in
      let past = is.1 in
      let same : (found.0 == code) ≡ true = grind (arith, nat_tests) in
      absurd cc)

-- the places where attributes stand, with one more, with another one of the code, and with one less
alone : (t : Bool) → cond (t && true) true false ≡ t
alone true = refl
alone false = refl

elsewhere : (t there stands : Bool) → cond (t && false) there stands ≡ stands
elsewhere true there stands = refl
elsewhere false there stands = refl

no_more : (t : Bool) → cond (t && true) false t ≡ false
no_more true = refl
no_more false = refl

one_more : (a : Attr) (slots : List (Option Attr)) (c j : ℕ)
    → cond ((a.code == c) && (length slots == j)) true (stands_at c j slots) ≡ stands_at c j (slots ++ (Some a ∷ []))
one_more a [] c zero = alone (a.code == c)
one_more a [] c (suc j) = ap (λ here. cond ((a.code == c) && here) true false) (zero_eq-suc j) ∙ elsewhere (a.code == c) true false
one_more a (s ∷ slots) c zero = ap (λ here. cond ((a.code == c) && here) true (has_code c s)) (suc_eq-zero (length slots))
    ∙ elsewhere (a.code == c) true (has_code c s)
one_more a (s ∷ slots) c (suc j) = ap (λ here. cond ((a.code == c) && here) true (stands_at c j slots)) (suc_eq (length slots) j)
    ∙ one_more a slots c j

pub pushed : (a : Attr) (slots : List (Option Attr)) (c j : ℕ)
    → cond (is_eq (place_order (a.code, length slots) (c, j))) true (stands_at c j slots) ≡ stands_at c j (slots ++ (Some a ∷ []))
pushed a slots c j = ap (λ t. cond t true (stands_at c j slots)) (is_eq-place_order (a.code, length slots) (c, j)) ∙ one_more a slots c j

one_less : (code : ℕ) (slots : List (Option Attr)) (k : ℕ) → stands_at code k slots ≡ true → (c j : ℕ)
    → cond ((code == c) && (k == j)) false (stands_at c j slots) ≡ stands_at c j (set slots k None)
one_less code [] k stands c j = absurd cc
one_less code (None ∷ slots) zero stands c j = absurd cc
one_less code (Some b ∷ slots) zero stands c zero =
    let same : b.code ≡ code = eqb-true b.code code stands in
    ap (λ n. cond ((code == c) && true) false (n == c)) same ∙ no_more (code == c)
one_less code (Some b ∷ slots) zero stands c (suc j) = ap (λ here. cond ((code == c) && here) false (stands_at c j slots)) (zero_eq-suc j)
    ∙ elsewhere (code == c) false (stands_at c j slots)
one_less code (s ∷ slots) (suc k) stands c zero = ap (λ here. cond ((code == c) && here) false (has_code c s)) (suc_eq-zero k)
    ∙ elsewhere (code == c) false (has_code c s)
one_less code (s ∷ slots) (suc k) stands c (suc j) = ap (λ here. cond ((code == c) && here) false (stands_at c j slots)) (suc_eq k j)
    ∙ one_less code slots k stands c j

pub removed : (code : ℕ) (slots : List (Option Attr)) (k : ℕ) → stands_at code k slots ≡ true → (c j : ℕ)
    → cond (is_eq (place_order (code, k) (c, j))) false (stands_at c j slots) ≡ stands_at c j (set slots k None)
removed code slots k stands c j = ap (λ t. cond t false (stands_at c j slots)) (is_eq-place_order (code, k) (c, j)) ∙ one_less code slots k stands c j

pub kept : (a : Attr) (slots : List (Option Attr)) (k : ℕ) → stands_at a.code k slots ≡ true → (c j : ℕ)
    → stands_at c j slots ≡ stands_at c j (set slots k (Some a))
kept a [] k stands c j = refl
kept a (None ∷ slots) zero stands c j = absurd cc
kept a (Some b ∷ slots) zero stands c zero = ap (λ n. n == c) (eqb-true b.code a.code stands)
kept a (Some b ∷ slots) zero stands c (suc j) = refl
kept a (s ∷ slots) (suc k) stands c zero = refl
kept a (s ∷ slots) (suc k) stands c (suc j) = kept a slots k stands c j

-- an attribute stands within the list
pub within : (code : ℕ) (slots : List (Option Attr)) (k : ℕ) → stands_at code k slots ≡ true → k < length slots
within code [] k stands = absurd cc
within code (s ∷ slots) zero stands = omega arith
within code (s ∷ slots) (suc k) stands = omega (arith, within code slots k stands)
