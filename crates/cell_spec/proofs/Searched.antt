-- A list in order, as a search reads it.
use Rattle.std.proofs.Common.{◌≡◌, ℕ, zero, suc, ◌+◌, ◌<◌, ◌≤◌, ◌⊎◌, inl, inr, false, List, get_or, refl, ap, ◌∙◌, arith}
use Rattle.std.specs.Cmp.{IsTotalOrder}
use Rattle.std.specs.List.Sorted.{IsSorted, IsStrictlySortedBy}
use Rattle.std.specs.Ordering.{is_eq, is_lt, ordering_reverse}
use Rattle.std.specs.declared.cmp.Ordering.{Ordering}
use Rattle.std.specs.declared.cmp.Ordering.TheVariants.{Less, Equal, Greater}
use Rattle.std.proofs.Math.Nat.{eq-or-lt_of_le}
use Rattle.std.proofs.lemmas.Map.Keys.{Less-from_sorted}

not_lt : (o : Ordering) → o ≡ Less → is_lt (ordering_reverse o) ≡ false
not_lt Less e = refl
not_lt Equal e = refl
not_lt Greater e = absurd cc

-- a list in strict order is in order
pub sorted_when_strictly : {X : Type 0} (order : X → X → Ordering) → IsTotalOrder order → (xs : List X) → IsStrictlySortedBy order xs → IsSorted order xs
sorted_when_strictly order total xs rises = λ k d low within.
    let less = Less-from_sorted order xs k (k + 1) d rises (omega arith) within in
    ap is_lt (total.antisymm (get_or xs (k + 1) d) (get_or xs k d)) ∙ not_lt (order (get_or xs k d) (get_or xs (k + 1) d)) less

-- what is less or greater doesn't tie
pub no_tie : (o : Ordering) → (o ≡ Less) ⊎ (o ≡ Greater) → is_eq (ordering_reverse o) ≡ false
no_tie Less e = refl
no_tie Equal (inl e) = absurd cc
no_tie Equal (inr e) = absurd cc
no_tie Greater e = refl

-- a place is before another or not
pub side_of : (k i : ℕ) → (k < i) ⊎ (i ≤ k)
side_of k zero = inr (omega arith)
side_of k (suc i) = elim (side_of k i) [
  | inl h ↦ inl (omega (arith, h))
  | inr h ↦ elim (eq-or-lt_of_le h) [ inl e ↦ inl (omega (arith, e)) | inr l ↦ inr (omega (arith, l)) ]
]
