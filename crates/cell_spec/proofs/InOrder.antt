-- Items of which each is below the next are in order, and the other way round.
use Rattle.std.proofs.Common.{◌≡◌, ◌+◌, Bool, true, false, true≢false, List, [], ◌∷◌, refl, sym, ap, ◌∙◌, arith}
use Rattle.std.specs.Cmp.{IsTotalOrder}
use Rattle.std.specs.List.{IsAllAdjacentAnswer}
use Rattle.std.specs.List.Sorted.{IsStrictlySortedBy}
use Rattle.std.specs.Ordering.{is_lt}
use Rattle.std.specs.declared.cmp.Ordering.{Ordering}
use Rattle.std.proofs.lemmas.Map.Keys.{Less-from_sorted, sorted_from_all_adjacent}
use Rattle.row_spec.proofs.Place.{less_from_test}

module _ {X : Type 0} (order : X → X → Ordering) (total : IsTotalOrder order) where
  pub sorted_from_neighbours : (xs : List X) (answer : Bool) → IsAllAdjacentAnswer (λ x y b. b ≡ is_lt (order x y)) xs answer → answer ≡ true
      → IsStrictlySortedBy order xs
  unfolding IsStrictlySortedBy
  sorted_from_neighbours [] answer seen holds = tt
  sorted_from_neighbours (x ∷ xs) true seen holds =
      sorted_from_all_adjacent total (x ∷ xs) x (λ k within. less_from_test _ (sym (seen k x (omega arith))))
  sorted_from_neighbours (x ∷ xs) false seen holds = absurd (true≢false (sym holds))

  pub neighbours_from_sorted : (xs : List X) (answer : Bool) → IsAllAdjacentAnswer (λ x y b. b ≡ is_lt (order x y)) xs answer
      → IsStrictlySortedBy order xs → answer ≡ true
  neighbours_from_sorted xs true seen sorted = refl
  neighbours_from_sorted [] false seen sorted = absurd (omega (arith, seen.1))
  neighbours_from_sorted (x ∷ xs) false seen sorted =
      seen.2 x ∙ ap is_lt (Less-from_sorted order (x ∷ xs) seen.0 (seen.0 + 1) x sorted (omega arith) seen.1)
