-- The keys of the rows that pass a test.
use Rattle.std.proofs.Common.{◌≡◌, ◌&&◌, ◌||◌, Bool, true, false, not, List, [], ◌∷◌, Option, Some, cond, is_some, map, filter, refl, sym, ap, ◌∙◌, Ordering}
use Rattle.std.proofs.Common.{Less, is_eq}
use Rattle.std.specs.Cmp.{Equal-is, IsTotalOrder, eq_by_cmp_equiv}
use Rattle.std.specs.List.{AllByRecursion}
use Rattle.std.specs.List.Sorted.{IsStrictlySortedBy}
use Rattle.std.specs.Map.{keys_of}
use Rattle.std.specs.Option.{option_map_or}
use Rattle.std.proofs.lemmas.Map.Keys.{sorted_head, sorted_tail}
use Rattle.std.proofs.lemmas.Map.Lookups.{CmpEqualImpliesEq}
use Rattle.row_spec.specs.Rows.{IsAscending, value_of}
use Rattle.row_spec.proofs.Place.{above_tied, value_of-above}
use Rattle.pair_set.specs.Pairs.{is_among}

some_or : {V : Type 0} (b : Bool) (v : V) (o : Option V) → is_some (cond b (Some v) o) ≡ (b || is_some o)
some_or true v o = refl
some_or false v o = refl

module _ {K V : Type 0} (order : K → K → Ordering) (total : IsTotalOrder order) where
  -- a key stands among the keys where it has a value
  pub among_keys : (rows : List (K × V)) (q : K) → is_among order (keys_of rows) q ≡ is_some (value_of order rows q)
  among_keys [] q = refl
  among_keys (row ∷ rows) q =
      (λ i. (eq_by_cmp_equiv total).symm q row.0 i || among_keys rows q i) ∙ sym (some_or (is_eq (order row.0 q)) row.1 (value_of order rows q))

-- what stands among those that aren't one
dropped_by : (tie same rest : Bool) (k : Bool) → (tie ≡ true → same ≡ k) → (not k || false) ≡ not k
    → cond (not same) (tie || (not k && rest)) (not k && rest) ≡ (not k && (tie || rest))
dropped_by true same rest k f e = let is = f refl in by same k is rest
  where
    by : (same k : Bool) → same ≡ k → (rest : Bool) → cond (not same) (true || (not k && rest)) (not k && rest) ≡ (not k && (true || rest))
    by true true e rest = refl
    by true false e rest = cc
    by false true e rest = cc
    by false false e rest = refl
dropped_by false true rest k f e = refl
dropped_by false false rest k f e = refl

module _ {K : Type 0} (order : K → K → Ordering) (exact : CmpEqualImpliesEq order) (k : K) where
  kept_by : (q x : K) (rest : List K) (same : Bool) → is_among order (cond (not same) (x ∷ rest) rest) q ≡ cond (not same)
      (is_eq (order q x) || is_among order rest q) (is_among order rest q)
  kept_by q x rest true = refl
  kept_by q x rest false = refl

  or_none : (b : Bool) → (b || false) ≡ b
  or_none true = refl
  or_none false = refl

  pub among_others : (q : K) (xs : List K)
      → is_among order (filter (λ x. not (is_eq (order x k))) xs) q ≡ (not (is_eq (order q k)) && is_among order xs q)
  among_others q [] = and_none (not (is_eq (order q k)))
    where
      and_none : (b : Bool) → false ≡ (b && false)
      and_none true = refl
      and_none false = refl
  among_others q (x ∷ xs) =
      kept_by q x (filter (λ y. not (is_eq (order y k))) xs) (is_eq (order x k))
      ∙ ap (λ more. cond (not (is_eq (order x k))) (is_eq (order q x) || more) more) (among_others q xs)
      ∙ dropped_by (is_eq (order q x)) (is_eq (order x k)) (is_among order xs q) (is_eq (order q k))
      (λ tie. ap (λ y. is_eq (order y k)) (sym (exact q x ((Equal-is (order q x)).0 tie)))) (or_none (not (is_eq (order q k))))

module _ {K V : Type 0} (order : K → K → Ordering) (total : IsTotalOrder order) (exact : CmpEqualImpliesEq order) (p : K × V → Bool) where
  abbrev chosen : List (K × V) → List K
  chosen rows = map (λ (row : K × V). row.0) (filter p rows)

  each_by : (P : K → Type 0) (row : K × V) (rows : List (K × V)) (b : Bool) → P row.0 → AllByRecursion P (chosen rows)
      → AllByRecursion P (map (λ (r : K × V). r.0) (cond b (row ∷ filter p rows) (filter p rows)))
  each_by P row rows true here more = (here, more)
  each_by P row rows false here more = more

  each_chosen : (P : K → Type 0) (rows : List (K × V)) → AllByRecursion P (keys_of rows) → AllByRecursion P (chosen rows)
  each_chosen P [] all = tt
  each_chosen P (row ∷ rows) all = each_by P row rows (p row) all.0 (each_chosen P rows all.1)

  sorted_by : (row : K × V) (rows : List (K × V)) (b : Bool) → AllByRecursion (λ k. order row.0 k ≡ Less) (chosen rows)
      → IsStrictlySortedBy order (chosen rows)
      → IsStrictlySortedBy order (map (λ (r : K × V). r.0) (cond b (row ∷ filter p rows) (filter p rows)))
  unfolding IsStrictlySortedBy
  sorted_by row rows true here more = (here, more)
  sorted_by row rows false here more = more

  -- they are in order
  pub sorted-chosen : (rows : List (K × V)) → IsAscending order rows → IsStrictlySortedBy order (chosen rows)
  unfolding IsStrictlySortedBy
  sorted-chosen [] ascending = tt
  sorted-chosen (row ∷ rows) ascending =
      sorted_by row rows (p row) (each_chosen (λ k. order row.0 k ≡ Less) rows (sorted_head order row.0 (keys_of rows) ascending))
      (sorted-chosen rows (sorted_tail order row.0 (keys_of rows) ascending))

  -- a key is one of them where its value passes
  abbrev passes : List (K × V) → K → Bool
  passes rows q = option_map_or (λ v. p (q, v)) (value_of order rows q) false

  one_by : (q : K) (row : K × V) (rows : List (K × V)) (hit tie : Bool) → p row ≡ hit → is_eq (order q row.0) ≡ tie
      → is_among order (chosen rows) q ≡ passes rows q → (tie ≡ true → passes rows q ≡ false)
      → is_among order (map (λ (r : K × V). r.0) (cond hit (row ∷ filter p rows) (filter p rows))) q
      ≡ option_map_or (λ v. p (q, v)) (cond tie (Some row.1) (value_of order rows q)) false
  one_by q row rows true true hit tie more none =
      ap (λ b. b || is_among order (chosen rows) q) tie ∙ sym (ap (λ k. p (k, row.1)) (exact q row.0 ((Equal-is (order q row.0)).0 tie)) ∙ hit)
  one_by q row rows true false hit tie more none = ap (λ b. b || is_among order (chosen rows) q) tie ∙ more
  one_by q row rows false true hit tie more none =
      more ∙ none refl ∙ sym (ap (λ k. p (k, row.1)) (exact q row.0 ((Equal-is (order q row.0)).0 tie)) ∙ hit)
  one_by q row rows false false hit tie more none = more

  pub among-chosen : (rows : List (K × V)) (q : K) → IsAscending order rows → is_among order (chosen rows) q ≡ passes rows q
  among-chosen [] q ascending = refl
  among-chosen (row ∷ rows) q ascending =
      one_by q row rows (p row) (is_eq (order q row.0)) refl refl (among-chosen rows q (sorted_tail order row.0 (keys_of rows) ascending))
      (λ tie. ap (λ o. option_map_or (λ v. p (q, v)) o false)
      (value_of-above order rows q (above_tied order total row.0 q rows ((Equal-is (order row.0 q)).0 ((eq_by_cmp_equiv total).symm row.0 q ∙ tie))
      (sorted_head order row.0 (keys_of rows) ascending))))
      ∙ ap (λ b. option_map_or (λ v. p (q, v)) (cond b (Some row.1) (value_of order rows q)) false) ((eq_by_cmp_equiv total).symm q row.0)
