-- Sums over lists that are put in ascending order, mapped and flattened.
use Rattle.std.proofs.Common.{◌≡◌, inl, inr, ℕ, ◌+◌, false, ◌||◌, List, [], ◌∷◌, Option, None, Some, fold, refl, sym, ap, ◌∙◌, arith}
use Rattle.std.specs.Prelude.{filter_map, flat_map, sum_by}
use Rattle.std.specs.declared.cmp.Ordering.{Ordering}
use Rattle.std.specs.declared.cmp.Ordering.TheVariants.{Less, Equal, Greater}
use Rattle.std.specs.Ordering.{is_eq, match_ordering, ordering_reverse}
use Rattle.std.specs.Cmp.{IsTotalOrder}
use Rattle.std.specs.List.{AllByRecursion, IsDistinct, cons_option}
use Rattle.std.specs.Option.{option_map_or}
use Rattle.std.proofs.lemmas.Bool.{or_parts}
use Rattle.std.proofs.lemmas.List.Sums.{sum_by-append, sum_by-cons}
use Rattle.std.proofs.lemmas.Map.Lookups.{CmpEqualImpliesEq}
use Rattle.cell_spec.specs.Ascending.{ascending, put_in_order}
use Rattle.cell_spec.proofs.Ascending.{holds, holds-put}
use Rattle.answer_laws.proofs.Among.{Among}

module _ {X : Type 0} (order : X → X → Ordering) (w : X → ℕ) where
  put_by : (x y : X) (ys : List X) (found : Ordering) → is_eq found ≡ false → sum_by w (put_in_order order x ys) ≡ w x + sum_by w ys
      → sum_by w (match_ordering found (x ∷ y ∷ ys) (y ∷ ys) (y ∷ put_in_order order x ys)) ≡ w x + sum_by w (y ∷ ys)
  put_by x y ys Less e h = sum_by-cons w x (y ∷ ys)
  put_by x y ys Equal e h = cc
  put_by x y ys Greater e h =
      let first = sum_by-cons w y (put_in_order order x ys) in
      let second = sum_by-cons w y ys in
      omega (arith, first, second, h)

  sum_put : (x : X) (ys : List X) → holds order x ys ≡ false → sum_by w (put_in_order order x ys) ≡ w x + sum_by w ys
  sum_put x [] e = sum_by-cons w x []
  sum_put x (y ∷ ys) e =
      let parts = or_parts (is_eq (order x y)) (holds order x ys) e in
      put_by x y ys (order x y) parts.0 (sum_put x ys parts.1)

module _ {X : Type 0} (order : X → X → Ordering) (total : IsTotalOrder order) (exact : CmpEqualImpliesEq order) (w : X → ℕ) where
  turned_tie : (o : Ordering) → is_eq (ordering_reverse o) ≡ is_eq o
  turned_tie Less = refl
  turned_tie Equal = refl
  turned_tie Greater = refl

  no_tie_back : (x y : X) → is_eq (order x y) ≡ false → is_eq (order y x) ≡ false
  no_tie_back x y e = ap is_eq (total.antisymm y x) ∙ turned_tie (order x y) ∙ e

  still : (x : X) (sorted xs : List X) → AllByRecursion (λ y. is_eq (order x y) ≡ false) xs → AllByRecursion (λ y. holds order y sorted ≡ false) xs
      → AllByRecursion (λ y. holds order y (put_in_order order x sorted) ≡ false) xs
  still x sorted [] apart free = tt
  still x sorted (y ∷ ys) apart free = (
    holds-put order exact y x sorted ∙ (λ i. no_tie_back x y apart.0 i || free.0 i),
    still x sorted ys apart.1 free.1,
  )

  sum_fold : (sorted xs : List X) → IsDistinct (λ x y. is_eq (order x y)) xs → AllByRecursion (λ x. holds order x sorted ≡ false) xs
      → sum_by w (fold (λ sorted x. put_in_order order x sorted) sorted xs) ≡ sum_by w sorted + sum_by w xs
  unfolding IsDistinct
  sum_fold sorted [] apart free = omega arith
  sum_fold sorted (x ∷ xs) apart free =
      let step = sum_put order w x sorted free.0 in
      let rest = sum_fold (put_in_order order x sorted) xs apart.1 (still x sorted xs apart.0 free.1) in
      let whole = sum_by-cons w x xs in
      omega (arith, step, rest, whole)

  free_at_first : (xs : List X) → AllByRecursion (λ x. holds order x [] ≡ false) xs
  free_at_first [] = tt
  free_at_first (x ∷ xs) = (refl, free_at_first xs)

  -- a list of items of which no two tie has the same sum in ascending order
  pub sum_ascending : (xs : List X) → IsDistinct (λ x y. is_eq (order x y)) xs → sum_by w (ascending order xs) ≡ sum_by w xs
  sum_ascending xs apart = let sum = sum_fold [] xs apart (free_at_first xs) in omega (arith, sum)

-- what of some items is counted
abbrev pub counted_in : {Y : Type 0} → (Y → ℕ) → Option Y → ℕ
counted_in w o = option_map_or w o 0

filter_map_by : {Y : Type 0} (w : Y → ℕ) (ys : List Y) (n : ℕ) (o : Option Y) → sum_by w ys ≡ n → sum_by w (cons_option o ys) ≡ counted_in w o + n
filter_map_by w ys n None e = omega (arith, e)
filter_map_by w ys n (Some y) e = sum_by-cons w y ys ∙ ap (λ k. w y + k) e

pub sum_filter_map : {X Y : Type 0} (w : Y → ℕ) (h : X → Option Y) (xs : List X) → sum_by w (filter_map h xs) ≡ sum_by (λ x. counted_in w (h x)) xs
sum_filter_map w h [] = refl
sum_filter_map w h (x ∷ xs) =
    filter_map_by w (filter_map h xs) (sum_by (λ y. counted_in w (h y)) xs) (h x) (sum_filter_map w h xs) ∙ sym (sum_by-cons (λ y. counted_in w (h y)) x xs)

pub sum_flat : {X Y : Type 0} (w : Y → ℕ) (k : X → List Y) (xs : List X) → sum_by w (flat_map k xs) ≡ sum_by (λ x. sum_by w (k x)) xs
sum_flat w k [] = refl
sum_flat w k (x ∷ xs) = sum_by-append w (k x) (flat_map k xs) ∙ ap (λ n. sum_by w (k x) + n) (sum_flat w k xs) ∙ sym (sum_by-cons (λ y. sum_by w (k y)) x xs)

-- items that count alike
pub sum_same : {X : Type 0} (v w : X → ℕ) (xs : List X) → ((x : X) → Among x xs → v x ≡ w x) → sum_by v xs ≡ sum_by w xs
sum_same v w [] same = refl
sum_same v w (x ∷ xs) same =
    sum_by-cons v x xs ∙ (λ i. same x (inl refl) i + sum_same v w xs (λ y at. same y (inr at)) i) ∙ sym (sum_by-cons w x xs)

-- items that count nothing
pub sum_none : {X : Type 0} (w : X → ℕ) (xs : List X) → ((x : X) → Among x xs → w x ≡ 0) → sum_by w xs ≡ 0
sum_none w [] none = refl
sum_none w (x ∷ xs) none = sum_by-cons w x xs ∙ (λ i. none x (inl refl) i + sum_none w xs (λ y at. none y (inr at)) i)
