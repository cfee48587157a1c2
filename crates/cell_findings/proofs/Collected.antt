-- Answers of threads, collected in order.
use Rattle.std.proofs.Common.{◌≡◌, List, [], ◌∷◌, map, subst, sym, Vec, Global}
use Rattle.std.specs.Prelude.{Result, Ok, Err, MatchResult, Contains}
use Rattle.std.specs.List.{AllZip}

module _ {X Y : Type 0} (E : Type 0) (gives : X → Result Y E → Type 0) where
  values_are : (xs : List X) (ys : List Y) → AllZip gives xs (map Ok ys) → AllZip (λ x y. gives x (Ok y)) xs ys
  values_are [] [] h = tt
  values_are [] (y ∷ ys) h = absurd h
  values_are (x ∷ xs) [] h = absurd h
  values_are (x ∷ xs) (y ∷ ys) h = (h.0, values_are xs ys h.1)

  -- where all answers are collected, each is `Ok` with the value that stands at its place
  pub all_ok : (xs : List X) (answers : List (Result Y E)) → AllZip gives xs answers → (all : Result (Vec Y Global) E)
      → MatchResult all (λ v. (ys : List Y) × (answers ≡ map Ok ys) × (v.items ≡ ys)) (λ e. Contains answers (Err e)) → (v : Vec Y Global)
      → all ≡ Ok v → AllZip (λ x y. gives x (Ok y)) xs v.items
  all_ok xs answers each all told v is =
      let h = subst (λ (r : Result (Vec Y Global) E). MatchResult r (λ v. (ys : List Y) × (answers ≡ map Ok ys) × (v.items ≡ ys))
      (λ e. Contains answers (Err e))) is told in
      subst (AllZip (λ x y. gives x (Ok y)) xs) (sym h.2) (values_are xs h.0 (subst (AllZip gives xs) h.1 each))
