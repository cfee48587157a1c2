-- The only item that passes a test: there is one where one is counted, and it is the first.
use Rattle.std.proofs.Common.{◌≡◌, ◌≢◌, Bool, true, false, List, [], ◌∷◌, length, filter, find, Option, None, Some, refl, sym, ap, ◌∙◌, arith}
use Rattle.std.specs.Prelude.{cond, count_by}
use Rattle.std.proofs.lemmas.List.Sums.{length-filter}
use Rattle.rule_spec.specs.Records.{the_only}

none_of_many : {X : Type 0} (xs : List X) → length xs ≢ 1 → the_only xs ≡ None
none_of_many [] h = refl
none_of_many (x ∷ []) h = absurd (h refl)
none_of_many (x ∷ y ∷ xs) h = refl

pub only_counted : {X : Type 0} (p : X → Bool) (xs : List X) → count_by p xs ≢ 1 → the_only (filter p xs) ≡ None
only_counted p xs h = none_of_many (filter p xs) (λ e. h (sym (length-filter p xs) ∙ e))

empty : {X : Type 0} (xs : List X) → length xs ≡ 0 → xs ≡ []
empty [] h = refl
empty (x ∷ xs) h = absurd (omega arith)

only_by : {X : Type 0} (x : X) (later : List X) (first : Option X) (b : Bool) → length (cond b (x ∷ later) later) ≡ 1
    → (length later ≡ 1 → the_only later ≡ first)
    → the_only (cond b (x ∷ later) later) ≡ cond b (Some x) first
only_by x later first true e h = let none : later ≡ [] = empty later (omega arith) in ap (λ xs. the_only (x ∷ xs)) none
only_by x later first false e h = h e

only_first : {X : Type 0} (p : X → Bool) (xs : List X) → length (filter p xs) ≡ 1 → the_only (filter p xs) ≡ find p xs
only_first p [] e = absurd (omega arith)
only_first p (x ∷ xs) e = only_by x (filter p xs) (find p xs) (p x) e (only_first p xs)

pub only_found : {X : Type 0} (p : X → Bool) (xs : List X) → count_by p xs ≡ 1 → the_only (filter p xs) ≡ find p xs
only_found p xs e = only_first p xs (length-filter p xs ∙ e)
