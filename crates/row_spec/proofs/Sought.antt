-- An item among items in order, as a search finds it.
use Rattle.std.proofs.Common.{◌≡◌, ℕ, ◌+◌, inl, inr, false, List, Result, Ok, Err, length, get_or, sym, ap, arith, is_ok}
use Rattle.std.specs.Cmp.{IsTotalOrder, tied_back}
use Rattle.std.specs.List.{list_any}
use Rattle.std.specs.List.Sorted.{IsBinarySearchResult, IsPartitionPoint, IsSearchInRange, IsSorted, IsStrictlySortedBy}
use Rattle.std.specs.Ordering.{is_eq, is_lt}
use Rattle.std.specs.declared.cmp.Ordering.{Ordering}
use Rattle.std.specs.declared.cmp.Ordering.TheVariants.{Less, Greater}
use Rattle.std.proofs.lemmas.Bool.{cases_lt}
use Rattle.std.proofs.lemmas.List.Folds.{list_any_at, list_any_none}
use Rattle.std.proofs.lemmas.List.Sorted.{searchable_from_sorted}
use Rattle.std.proofs.lemmas.Map.Keys.{Less-from_sorted}
use Rattle.row_spec.proofs.Place.{turned}

module _ {X : Type 0} (order : X → X → Ordering) (total : IsTotalOrder order) (xs : List X) where
  sorted : IsStrictlySortedBy order xs → IsSorted order xs
  sorted rises = λ k d low within.
      ap is_lt (turned total (get_or xs k d) (get_or xs (k + 1) d) Less (Less-from_sorted order xs k (k + 1) d rises (omega arith) within))

  module _ (x : X) where
    -- between those below it and those above it there is none that ties with it
    pub none_between : (i : ℕ) → IsPartitionPoint (λ y. order y x ≡ Less) (λ y. order y x ≡ Greater) xs i → list_any (λ y. is_eq (order x y)) xs ≡ false
    none_between i parts = list_any_none (λ y. is_eq (order x y)) xs (λ k d within.
        let other = get_or xs k d in
        elim (cases_lt k i) [
          | inl h ↦ ap is_eq (turned total other x Less (parts.0 k d (omega arith) h))
          | inr h ↦ ap is_eq (turned total other x Greater (parts.1 k d h within))
        ])

    -- where a search ends that finds nothing
    pub parted : (place : ℕ) → IsStrictlySortedBy order xs → IsBinarySearchResult (λ y. order y x) xs (Err place)
        → IsPartitionPoint (λ y. order y x ≡ Less) (λ y. order y x ≡ Greater) xs place
    parted place rises cut = cut (searchable_from_sorted total (λ y. y) xs x (sorted rises))

    -- it finds an item exactly where it stands among them
    pub found : (r : Result ℕ ℕ) → IsStrictlySortedBy order xs → IsSearchInRange r (length xs) → IsBinarySearchResult (λ y. order y x) xs r
        → is_ok r ≡ list_any (λ y. is_eq (order x y)) xs
    found (Ok place) rises within same =
        sym (list_any_at (λ y. is_eq (order x y)) xs place x within (ap is_eq (tied_back total (get_or xs place x) x (same x))))
    found (Err place) rises within cut = sym (none_between place (parted place rises cut))
