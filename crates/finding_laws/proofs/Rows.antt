-- A table that is right for each key is the list of its rows.
use Rattle.std.proofs.Common.{◌≡◌, ◌&&◌, ◌||◌, Bool, true, false, List, [], ◌∷◌, Option, None, Some, cond, map, filter, refl, sym, ap, ◌∙◌, subst}
use Rattle.std.specs.List.Sorted.{IsStrictlySortedBy}
use Rattle.std.specs.FinMap.Entries.{below_all, find, is_sorted, same_entries}
use Rattle.std.specs.List.{AllByRecursion}
use Rattle.std.specs.Map.{keys_of}
use Rattle.std.specs.Prelude.{T}
use Rattle.std.specs.declared.cmp.Ordering.{Ordering}
use Rattle.std.specs.declared.cmp.Ordering.TheVariants.{Less}
use Rattle.std.specs.Ordering.{is_eq, is_lt}
use Rattle.std.specs.Cmp.{Equal-is, IsTotalOrder, eq_by_cmp_equiv}
use Rattle.std.proofs.lemmas.List.Kept.{IsStrictlySortedBy-filter}
use Rattle.std.proofs.lemmas.Map.Lookups.{CmpEqualImpliesEq}
use Rattle.cell_spec.proofs.Ascending.{holds}
use Rattle.row_spec.specs.Rows.{IsAscending, value_of}

pub none_left : {V : Type 0} (v : V) (h : Bool) → cond (h && false) (Some v) None ≡ None
none_left v true = refl
none_left v false = refl

-- ---- rows in order, as std tests it
both_hold : (a b : Bool) → a ≡ true → T b → T (a && b)
both_hold true b e h = h
both_hold false b e h = cc

module _ {K V : Type 0} (order : K → K → Ordering) where
  all_below : (k : K) (rows : List (K × V)) → AllByRecursion (λ j. order k j ≡ Less) (keys_of rows) → below_all order k rows ≡ true
  all_below k [] all = refl
  all_below k (r ∷ rows) all = λ i. ap is_lt all.0 i && all_below k rows all.1 i

  in_order : (rows : List (K × V)) → IsAscending order rows → T (is_sorted order rows)
  unfolding IsStrictlySortedBy
  in_order [] all = tt
  in_order (r ∷ rows) all = both_hold (below_all order r.0 rows) (is_sorted order rows) (all_below r.0 rows all.0) (in_order rows all.1)

module _ {K V : Type 0} (order : K → K → Ordering) (total : IsTotalOrder order) (exact : CmpEqualImpliesEq order) (f : K → V) (p : K × V → Bool) where
  abbrev row : K → K × V
  row k = (k, f k)

  -- the rows of some keys, of which those that pass the test are kept
  abbrev pub made : List K → List (K × V)
  made ks = filter p (map row ks)

  keys_by : (k : K) (rows : List (K × V)) (ks : List K) (b : Bool) → keys_of rows ≡ ks → keys_of (cond b (row k ∷ rows) rows) ≡ cond b (k ∷ ks) ks
  keys_by k rows ks true e = ap (λ js. k ∷ js) e
  keys_by k rows ks false e = e

  keys_made : (ks : List K) → keys_of (made ks) ≡ filter (λ k. p (row k)) ks
  keys_made [] = refl
  keys_made (k ∷ ks) = keys_by k (made ks) (filter (λ j. p (row j)) ks) (p (row k)) (keys_made ks)

  -- what a key finds among them
  abbrev one : K → Bool → Option V
  one q h = cond (h && p (row q)) (Some (f q)) None

  found_first : (q k : K) (rows : List (K × V)) (h : Bool) → find order q rows ≡ one q h → p (row k) ≡ true → (tie : Bool) → is_eq (order q k) ≡ tie
      → cond tie (Some (f k)) (find order q rows) ≡ one q (tie || h)
  found_first q k rows h rest passes true is =
      let same : q ≡ k = exact q k ((Equal-is (order q k)).0 is) in
      sym (ap (λ j. cond (p (row j)) (Some (f j)) None) same ∙ ap (λ b. cond b (Some (f k)) None) passes)
  found_first q k rows h rest passes false is = rest

  found_later : (q k : K) (rows : List (K × V)) (h : Bool) → find order q rows ≡ one q h → p (row k) ≡ false → (tie : Bool) → is_eq (order q k) ≡ tie
      → find order q rows ≡ one q (tie || h)
  found_later q k rows h rest fails true is =
      let same : q ≡ k = exact q k ((Equal-is (order q k)).0 is) in
      let out : p (row q) ≡ false = ap (λ j. p (row j)) same ∙ fails in
      rest ∙ ap (λ b. cond (h && b) (Some (f q)) None) out ∙ none_left (f q) h ∙ sym (ap (λ b. cond b (Some (f q)) None) out)
  found_later q k rows h rest fails false is = rest

  found_by : (q k : K) (rows : List (K × V)) (h : Bool) → find order q rows ≡ one q h → (b : Bool) → p (row k) ≡ b
      → find order q (cond b (row k ∷ rows) rows) ≡ one q (is_eq (order q k) || h)
  found_by q k rows h rest true is = found_first q k rows h rest is (is_eq (order q k)) refl
  found_by q k rows h rest false is = found_later q k rows h rest is (is_eq (order q k)) refl

  found_made : (q : K) (ks : List K) → find order q (made ks) ≡ one q (holds order q ks)
  found_made q [] = refl
  found_made q (k ∷ ks) = found_by q k (made ks) (holds order q ks) (found_made q ks) (p (row k)) refl

  turned : (q : K) (rows : List (K × V)) → find order q rows ≡ value_of order rows q
  turned q [] = refl
  turned q (r ∷ rows) = λ i. cond ((eq_by_cmp_equiv total).symm q r.0 i) (Some r.1) (turned q rows i)

  -- these rows are in order, and have these values
  pub made_ascends : (ks : List K) → IsStrictlySortedBy order ks → IsAscending order (made ks)
  made_ascends ks sorted = subst (IsStrictlySortedBy order) (sym (keys_made ks)) (IsStrictlySortedBy-filter order (λ k. p (row k)) ks sorted)

  pub value_made : (q : K) (ks : List K) → value_of order (made ks) q ≡ cond (holds order q ks && p (q, f q)) (Some (f q)) None
  value_made q ks = sym (turned q (made ks)) ∙ found_made q ks

  -- rows in order with the values of these are these
  pub is_made : (ks : List K) (rows : List (K × V)) → IsStrictlySortedBy order ks → IsAscending order rows
      → ((q : K) → value_of order rows q ≡ cond (holds order q ks && p (q, f q)) (Some (f q)) None) → rows ≡ made ks
  is_made ks rows sorted ascending values =
      same_entries order total exact rows (made ks) (in_order order rows ascending)
      (in_order order (made ks) (made_ascends ks sorted))
      (λ q. turned q rows ∙ values q ∙ sym (found_made q ks))

  -- ---- the keys of the rows that pass another test
  chosen_by : (k : K) (rows : List (K × V)) (ks : List K) (b : Bool) → map (λ (r : K × V). r.0) rows ≡ ks
      → map (λ (r : K × V). r.0) (cond b (row k ∷ rows) rows) ≡ cond b (k ∷ ks) ks
  chosen_by k rows ks true e = ap (λ js. k ∷ js) e
  chosen_by k rows ks false e = e

  twice_by : (q : K × V → Bool) (k : K) (rows : List (K × V)) (ks : List K) (b : Bool) → map (λ (r : K × V). r.0) (filter q rows) ≡ ks
      → map (λ (r : K × V). r.0) (filter q (cond b (row k ∷ rows) rows)) ≡ cond (b && q (row k)) (k ∷ ks) ks
  twice_by q k rows ks true e = chosen_by k (filter q rows) ks (q (row k)) e
  twice_by q k rows ks false e = e

  pub keys_chosen : (q : K × V → Bool) (ks : List K) → map (λ (r : K × V). r.0) (filter q (made ks)) ≡ filter (λ k. p (k, f k) && q (k, f k)) ks
  keys_chosen q [] = refl
  keys_chosen q (k ∷ ks) = twice_by q k (made ks) (filter (λ j. p (row j) && q (row j)) ks) (p (row k)) (keys_chosen q ks)
