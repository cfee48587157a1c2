-- Lists in which no item stands twice: filters of them, and when one is another in a different order.
use Rattle.std.proofs.Common.{◌≡◌, Bool, true, false, List, [], ◌∷◌, ◌++◌, cond, filter, fold, refl, ap, ◌∙◌, subst}
use Rattle.std.specs.Prelude.{IsPermutation}
use Rattle.std.specs.List.{IsDistinct, AllByRecursion}
use Rattle.std.specs.List.Sorted.{IsStrictlySortedBy}
use Rattle.std.specs.declared.cmp.Ordering.{Ordering}
use Rattle.std.specs.declared.cmp.Ordering.TheVariants.{Less, Equal, Greater}
use Rattle.std.specs.Ordering.{is_eq, match_ordering}
use Rattle.std.specs.Cmp.{IsTotalOrder, both_ways, eq_by_cmp_equiv}
use Rattle.std.proofs.lemmas.Bool.{or_from}
use Rattle.std.proofs.lemmas.List.Sorted.{IsPermutation-refl, IsPermutation-sym, IsPermutation-trans, IsPermutation-cons, IsPermutation-middle}
use Rattle.std.proofs.lemmas.List.Sorted.{IsPermutation-append_right}
use Rattle.std.proofs.lemmas.Map.Lookups.{CmpEqualImpliesEq}
use Rattle.cell_spec.specs.Ascending.{ascending, put_in_order}
use Rattle.cell_spec.proofs.Ascending.{holds, holds-put, holds-ascending, sorted-ascending, same_when_sorted}
use Rattle.answer_laws.proofs.Among.{Among}
use Rattle.read_laws.proofs.Lists.{each_filtered}
use Rattle.finding_laws.proofs.Lists.{among_held, held_among}
use Rattle.finding_laws.proofs.Tests.{first_fails, second_fails}

-- ---- filters of lists in which no two items are the same
each_kept_by : {X : Type 0} (P : X → Type 0) (x : X) (xs : List X) (b : Bool) → (b ≡ true → P x) → AllByRecursion P xs → AllByRecursion P (cond b (x ∷ xs) xs)
each_kept_by P x xs true one others = (one refl, others)
each_kept_by P x xs false one others = others

-- a filter keeps what is known of each item, and what it tests for
pub each_tested : {X : Type 0} (P : X → Type 0) (p : X → Bool) → ((x : X) → p x ≡ true → P x) → (xs : List X) → AllByRecursion P (filter p xs)
each_tested P p gives [] = tt
each_tested P p gives (x ∷ xs) = each_kept_by P x (filter p xs) (p x) (gives x) (each_tested P p gives xs)

distinct_by : {X : Type 0} (same : X → X → Bool) (x : X) (xs : List X) (b : Bool) → AllByRecursion (λ y. same x y ≡ false) xs → IsDistinct same xs
    → IsDistinct same (cond b (x ∷ xs) xs)
unfolding IsDistinct
distinct_by same x xs true apart rest = (apart, rest)
distinct_by same x xs false apart rest = rest

pub distinct_filtered : {X : Type 0} (same : X → X → Bool) (p : X → Bool) (xs : List X) → IsDistinct same xs → IsDistinct same (filter p xs)
unfolding IsDistinct
distinct_filtered same p [] all = tt
distinct_filtered same p (x ∷ xs) all =
    distinct_by same x (filter p xs) (p x) (each_filtered (λ y. same x y ≡ false) p xs all.0) (distinct_filtered same p xs all.1)

-- ---- the ascending list of items that differ is these in another order
module _ {X : Type 0} (order : X → X → Ordering) (total : IsTotalOrder order) (exact : CmpEqualImpliesEq order) where
  abbrev ties : X → X → Bool
  ties x y = is_eq (order x y)

  put_by : (x y : X) (ys : List X) (o : Ordering) → is_eq o ≡ false → IsPermutation (x ∷ ys) (put_in_order order x ys)
      → IsPermutation (x ∷ y ∷ ys) (match_ordering o (x ∷ y ∷ ys) (y ∷ ys) (y ∷ put_in_order order x ys))
  put_by x y ys Less apart rest = IsPermutation-refl (x ∷ y ∷ ys)
  put_by x y ys Equal apart rest = cc
  put_by x y ys Greater apart rest =
      IsPermutation-trans (x ∷ y ∷ ys) (y ∷ x ∷ ys) (y ∷ put_in_order order x ys) (IsPermutation-middle (x ∷ []) y ys)
      (IsPermutation-cons y (x ∷ ys) (put_in_order order x ys) rest)

  -- a new item put in order
  put_moved : (x : X) (ys : List X) → holds order x ys ≡ false → IsPermutation (x ∷ ys) (put_in_order order x ys)
  put_moved x [] none = IsPermutation-refl (x ∷ [])
  put_moved x (y ∷ ys) none =
      put_by x y ys (order x y) (first_fails (ties x y) (holds order x ys) none) (put_moved x ys (second_fails (ties x y) (holds order x ys) none))

  still_new : (x : X) (sorted xs : List X) → AllByRecursion (λ y. ties x y ≡ false) xs → AllByRecursion (λ y. holds order y sorted ≡ false) xs
      → AllByRecursion (λ y. holds order y (put_in_order order x sorted) ≡ false) xs
  still_new x sorted [] apart new = tt
  still_new x sorted (y ∷ ys) apart new = (
    holds-put order exact y x sorted ∙ or_from (ties y x) (holds order y sorted)
        ((eq_by_cmp_equiv total).symm y x ∙ apart.0) new.0,
    still_new x sorted ys apart.1 new.1,
  )

  fold_moved : (sorted xs : List X) → AllByRecursion (λ y. holds order y sorted ≡ false) xs → IsDistinct ties xs
      → IsPermutation (xs ++ sorted) (fold (λ sorted x. put_in_order order x sorted) sorted xs)
  unfolding IsDistinct
  fold_moved sorted [] new apart = IsPermutation-refl sorted
  fold_moved sorted (x ∷ xs) new apart =
      let put = put_in_order order x sorted in
      let last = fold (λ sorted x. put_in_order order x sorted) put xs in
      let behind : IsPermutation (x ∷ (xs ++ sorted)) (xs ++ x ∷ sorted) =
      IsPermutation-sym (xs ++ x ∷ sorted) (x ∷ (xs ++ sorted)) (IsPermutation-middle xs x sorted) in
      let placed : IsPermutation (xs ++ x ∷ sorted) (xs ++ put) = IsPermutation-append_right xs (x ∷ sorted) put (put_moved x sorted new.0) in
      IsPermutation-trans (x ∷ (xs ++ sorted)) (xs ++ put) last (IsPermutation-trans (x ∷ (xs ++ sorted)) (xs ++ x ∷ sorted) (xs ++ put) behind placed)
      (fold_moved put xs (still_new x sorted xs apart.0 new.1) apart.1)

  all_new : (xs : List X) → AllByRecursion (λ y. holds order y [] ≡ false) xs
  all_new [] = tt
  all_new (x ∷ xs) = (refl, all_new xs)

  no_more : (xs : List X) → xs ++ [] ≡ xs
  no_more [] = refl
  no_more (x ∷ xs) = ap (λ ys. x ∷ ys) (no_more xs)

  pub ascending_moved : (xs : List X) → IsDistinct ties xs → IsPermutation xs (ascending order xs)
  ascending_moved xs apart = subst (λ ys. IsPermutation ys (ascending order xs)) (no_more xs) (fold_moved [] xs (all_new xs) apart)

  -- a list in order that holds what a list of items that differ holds is that list in another order
  pub moved_when_sorted : (xs ys : List X) → IsDistinct ties xs → IsStrictlySortedBy order ys → ((q : X) → Among q xs → Among q ys)
      → ((q : X) → Among q ys → Among q xs) → IsPermutation xs ys
  moved_when_sorted xs ys apart sorted there back =
      let one : ascending order xs ≡ ys = same_when_sorted order total exact (ascending order xs) ys (sorted-ascending order total xs) sorted (λ q.
      holds-ascending order exact q xs
      ∙ both_ways (holds order q xs) (holds order q ys) (λ e. held_among order total q ys (there q (among_held order exact q xs e)))
      (λ e. held_among order total q xs (back q (among_held order exact q ys e)))) in
      subst (IsPermutation xs) one (ascending_moved xs apart)
