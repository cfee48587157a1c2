-- Answers that may lack memory, collected in order.
use Rattle.std.proofs.Common.{◌≡◌, All, List, [], ◌∷◌, map, subst, sym, ◌∙◌, Vec, Global}
use Rattle.std.specs.Prelude.{Result, Ok, Err, IfOk, MatchResult, Contains}
use Rattle.std.specs.List.{AllByRecursion, AllZip}
use Rattle.std.proofs.lemmas.List.Elements.{All-from_recursion}
use Rattle.std.proofs.lemmas.Slice.Zip.{AllZip-map}

module _ {X Y : Type 0} (E : Type 0) (f : X → Y) where
  -- where each answer is `Ok`, its value is that of the item
  values_are : (xs : List X) (ys : List Y) → AllZip (λ x (answer : Result Y E). IfOk answer (λ y. y ≡ f x)) xs (map Ok ys) → AllZip (λ x y. y ≡ f x) xs ys
  values_are [] [] h = tt
  values_are [] (y ∷ ys) h = absurd h
  values_are (x ∷ xs) [] h = absurd h
  values_are (x ∷ xs) (y ∷ ys) h = (h.0, values_are xs ys h.1)

  -- and the values that are collected are those of the items
  pub collected : (xs : List X) (answers : List (Result Y E)) → AllZip (λ x (answer : Result Y E). IfOk answer (λ y. y ≡ f x)) xs answers
      → (all : Result (Vec Y Global) E)
      → MatchResult all (λ v. (ys : List Y) × (answers ≡ map Ok ys) × (v.items ≡ ys)) (λ e. Contains answers (Err e)) → (v : Vec Y Global)
      → all ≡ Ok v → v.items ≡ map f xs
  collected xs answers each all told v is =
      let h = subst (λ (r : Result (Vec Y Global) E). MatchResult r (λ v. (ys : List Y) × (answers ≡ map Ok ys) × (v.items ≡ ys))
      (λ e. Contains answers (Err e))) is told in
      h.2 ∙ AllZip-map f xs h.0 (values_are xs h.0 (subst (AllZip (λ x (answer : Result Y E). IfOk answer (λ y. y ≡ f x)) xs) h.1 each))

module _ {X Y : Type 0} (E : Type 0) (P : Y → Type 0) where
  -- where each answer is `Ok`, what is known of the answers is known of their values
  values_hold : (xs : List X) (ys : List Y) → AllZip (λ x (answer : Result Y E). IfOk answer P) xs (map Ok ys) → AllByRecursion P ys
  values_hold [] [] h = tt
  values_hold [] (y ∷ ys) h = absurd h
  values_hold (x ∷ xs) [] h = tt
  values_hold (x ∷ xs) (y ∷ ys) h = (h.0, values_hold xs ys h.1)

  by_answers : (xs : List X) (answers : List (Result Y E)) → AllZip (λ x (answer : Result Y E). IfOk answer P) xs answers → (v : Vec Y Global)
      → ((ys : List Y) × (answers ≡ map Ok ys) × (v.items ≡ ys)) → All P v.items
  by_answers xs answers each v h =
      subst (All P) (sym h.2)
      (All-from_recursion P h.0 (values_hold xs h.0 (subst (AllZip (λ x (answer : Result Y E). IfOk answer P) xs) h.1 each)))

  -- and of each value that is collected
  pub gathered : (xs : List X) (answers : List (Result Y E)) → AllZip (λ x (answer : Result Y E). IfOk answer P) xs answers
      → (all : Result (Vec Y Global) E)
      → MatchResult all (λ v. (ys : List Y) × (answers ≡ map Ok ys) × (v.items ≡ ys)) (λ e. Contains answers (Err e))
      → IfOk all (λ v. All P v.items)
  gathered xs answers each (Ok v) told = by_answers xs answers each v told
  gathered xs answers each (Err e) told = tt
