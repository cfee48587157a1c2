-- Rows whose keys are pairs: what a put and a removal change, and that the rows of one first stand together.
use Rattle.std.proofs.Common.{◌≡◌, ◌&&◌, ◌||◌, suc, ◌+◌, Bool, true, false, true≢false, not, List, [], ◌∷◌, Option, None, Some, cond, is_some, map, drop, refl}
use Rattle.std.proofs.Common.{rules, sym, ap, subst, ◌∙◌, arith, Ordering, Less, Equal, Greater, is_eq, is_lt}
use Rattle.std.specs.Cmp.{IsTotalOrder, eq_by_cmp_equiv}
use Rattle.std.specs.List.{AllByRecursion, list_any, take_while}
use Rattle.std.specs.List.Sorted.{IsStrictlySortedBy}
use Rattle.std.specs.Map.{keys_of}
use Rattle.std.specs.Ordering.{ordering_reverse, ordering_then}
use Rattle.std.proofs.lemmas.Cmp.{on_total, then_total}
use Rattle.std.proofs.lemmas.List.Sums.{take_while-cons}
use Rattle.std.proofs.lemmas.Map.Keys.{sorted_head, sorted_tail}
use Rattle.std.proofs.lemmas.Map.Lookups.{CmpEqualImpliesEq, exact_pairs}
use Rattle.row_spec.specs.Rows.{IsAscending, lower_bound, value_of, with_row, without_key}
use Rattle.row_spec.proofs.Changes.{value_of-with_row, value_of-without_key}
use Rattle.row_spec.proofs.Place.{above_greater, value_of-above}

-- ---- the words that are used here
abbrev is_among : {X : Type 0} → (X → X → Ordering) → List X → X → Bool
is_among order xs x = list_any (λ y. is_eq (order x y)) xs

abbrev seconds_under : {A B V : Type 0} → (A → A → Ordering) → A → List ((A × B) × V) → List B
seconds_under {A} {B} {V} firsts a rows = map (λ (row : (A × B) × V). row.0.1) (take_while (λ (row : (A × B) × V). is_eq (firsts row.0.0 a)) rows)

module _ {A B : Type 0} (firsts : A → A → Ordering) (seconds : B → B → Ordering) where
  abbrev same_pair : A → B → A → B → Bool
  same_pair a b c d = is_eq (firsts a c) && is_eq (seconds b d)

  abbrev pair_order : A × B → A × B → Ordering
  pair_order p q = ordering_then (firsts p.0 q.0) (seconds p.1 q.1)

  abbrev has_pair : {V : Type 0} → List ((A × B) × V) → A → B → Bool
  has_pair rows a b = is_some (value_of pair_order rows (a, b))

-- ---- what a put and a removal change
both_tie : (a b : Ordering) → is_eq (ordering_then a b) ≡ (is_eq a && is_eq b)
both_tie Less b = refl
both_tie Equal b = refl
both_tie Greater b = refl

-- whether there is a value after a put, and after a removal
pub put_some : {V : Type 0} (b : Bool) (v : V) (o : Option V) → is_some (cond b (Some v) o) ≡ (b || is_some o)
put_some true v o = refl
put_some false v o = refl

took_some : {V : Type 0} (b : Bool) (o : Option V) → is_some (cond b None o) ≡ (not b && is_some o)
took_some true o = refl
took_some false o = refl

module _ {A B : Type 0} (firsts : A → A → Ordering) (seconds : B → B → Ordering) (total_firsts : IsTotalOrder firsts)
    (total_seconds : IsTotalOrder seconds) where
  pub total_pairs : IsTotalOrder (pair_order firsts seconds)
  total_pairs = then_total (on_total (λ (p : A × B). p.0) total_firsts) (on_total (λ (p : A × B). p.1) total_seconds)

  module _ {V : Type 0} (pairs : List ((A × B) × V)) (c : A) (d : B) (a : A) (b : B) where
    -- two pairs tie where both parts do
    tie : is_eq (pair_order firsts seconds (c, d) (a, b)) ≡ same_pair firsts seconds c d a b
    tie = both_tie (firsts c a) (seconds d b)

    pub has-put : (v : V) → has_pair firsts seconds (with_row (pair_order firsts seconds) pairs (c, d) v) a b
        ≡ (same_pair firsts seconds c d a b || has_pair firsts seconds pairs a b)
    has-put v =
        ap is_some (value_of-with_row (pair_order firsts seconds) total_pairs pairs (c, d) (a, b) v)
        ∙ put_some (is_eq (pair_order firsts seconds (c, d) (a, b))) v (value_of (pair_order firsts seconds) pairs (a, b))
        ∙ ap (λ t. t || has_pair firsts seconds pairs a b) tie

    pub has-take : IsAscending (pair_order firsts seconds) pairs
        → has_pair firsts seconds (without_key (pair_order firsts seconds) pairs (c, d)) a b
        ≡ (not (same_pair firsts seconds c d a b) && has_pair firsts seconds pairs a b)
    has-take ascending =
        ap is_some (value_of-without_key (pair_order firsts seconds) total_pairs pairs (c, d) (a, b) ascending)
        ∙ took_some (is_eq (pair_order firsts seconds (c, d) (a, b))) (value_of (pair_order firsts seconds) pairs (a, b))
        ∙ ap (λ t. not t && has_pair firsts seconds pairs a b) tie

-- ---- the rows of one first stand together, from the first that isn't below it on
-- a pair is below the first with the least second exactly where its first is below the first
first_below_by : (o s : Ordering) → is_lt s ≡ false → is_lt (ordering_then o s) ≡ true → o ≡ Less
first_below_by Less s e h = refl
first_below_by Equal s e h = absurd (true≢false (sym h ∙ e))
first_below_by Greater s e h = absurd (true≢false (sym h))

first_reached_by : (o s : Ordering) → is_lt (ordering_then o s) ≡ false → is_lt o ≡ false
first_reached_by Less s h = h
first_reached_by Equal s h = refl
first_reached_by Greater s h = refl

-- of two pairs in order the later one has no lesser first
later_first_by : (o s : Ordering) → ordering_then o s ≡ Less → is_lt (ordering_reverse o) ≡ false
later_first_by Less s h = refl
later_first_by Equal s h = refl
later_first_by Greater s h = cc

map_if : {X Y : Type 0} (f : X → Y) (x : X) (xs : List X) (b : Bool) → map f (cond b (x ∷ xs) []) ≡ cond b (f x ∷ map f xs) []
map_if f x xs true = refl
map_if f x xs false = refl

pub under-cons : {A B V : Type 0} (firsts : A → A → Ordering) (a : A) (row : (A × B) × V) (rows : List ((A × B) × V))
    → seconds_under firsts a (row ∷ rows) ≡ cond (is_eq (firsts row.0.0 a)) (row.0.1 ∷ seconds_under firsts a rows) []
under-cons {A} {B} {V} firsts a row rows =
    let here = λ (pair : (A × B) × V). is_eq (firsts pair.0.0 a) in
    let second = λ (pair : (A × B) × V). pair.0.1 in
    ap (map second) (take_while-cons here row rows) ∙ map_if second row (take_while here rows) (here row)

module _ {A B V : Type 0} (firsts : A → A → Ordering) (seconds : B → B → Ordering) (total_firsts : IsTotalOrder firsts)
    (total_seconds : IsTotalOrder seconds) (a : A) where
  abbrev under : List ((A × B) × V) → List B
  under rows = seconds_under firsts a rows

  -- the first pair's first isn't below this one
  abbrev Reaches : List ((A × B) × V) → Type 0
  Reaches [] = Unit {0}
  Reaches (row ∷ rows) = is_lt (firsts row.0.0 a) ≡ false

  reaches_next : (row : (A × B) × V) (rows : List ((A × B) × V)) → firsts row.0.0 a ≡ Equal
      → AllByRecursion (λ p. pair_order firsts seconds row.0 p ≡ Less) (keys_of rows) → Reaches rows
  reaches_next row [] same later = tt
  reaches_next row (next ∷ rows) same later =
      ap is_lt (total_firsts.antisymm next.0.0 a ∙ ap ordering_reverse (sym (total_firsts.congr row.0.0 a next.0.0 same)))
      ∙ later_first_by (firsts row.0.0 next.0.0) (seconds row.0.1 next.0.1) later.0

  -- ---- the seconds of the first pairs are those that stand with the first
  under_by : (q : B) (row : (A × B) × V) (rows : List ((A × B) × V)) (o : Ordering) → firsts row.0.0 a ≡ o → is_lt o ≡ false
      → AllByRecursion (λ p. pair_order firsts seconds row.0 p ≡ Less) (keys_of rows)
      → (o ≡ Equal → is_among seconds (under rows) q ≡ has_pair firsts seconds rows a q)
      → is_among seconds (cond (is_eq o) (row.0.1 ∷ under rows) []) q
      ≡ is_some (cond (is_eq (ordering_then o (seconds row.0.1 q))) (Some row.1) (value_of (pair_order firsts seconds) rows (a, q)))
  under_by q row rows Less is reached later more = absurd (true≢false reached)
  under_by q row rows Equal is reached later more =
      (λ i. (eq_by_cmp_equiv total_seconds).symm q row.0.1 i || more refl i)
      ∙ sym (put_some (is_eq (seconds row.0.1 q)) row.1 (value_of (pair_order firsts seconds) rows (a, q)))
  under_by q row rows Greater is reached later more =
      sym (ap is_some (value_of-above (pair_order firsts seconds) rows (a, q)
      (above_greater (pair_order firsts seconds) (total_pairs firsts seconds total_firsts total_seconds) row.0 (a, q) rows
      (ap (λ o. ordering_then o (seconds row.0.1 q)) is) later)))

  among-under : (q : B) (rows : List ((A × B) × V)) → IsAscending (pair_order firsts seconds) rows → Reaches rows
      → is_among seconds (under rows) q ≡ has_pair firsts seconds rows a q
  among-under q [] ascending reached = refl
  among-under q (row ∷ rows) ascending reached =
      let later = sorted_head (pair_order firsts seconds) row.0 (keys_of rows) ascending in
      ap (λ those. is_among seconds those q) (under-cons firsts a row rows)
      ∙ under_by q row rows (firsts row.0.0 a) refl reached later
      (λ same. among-under q rows (sorted_tail (pair_order firsts seconds) row.0 (keys_of rows) ascending) (reaches_next row rows same later))

  -- ---- they are in order
  later_by : (row next : (A × B) × V) (rows : List ((A × B) × V)) (o : Ordering) → firsts row.0.0 a ≡ Equal
      → firsts next.0.0 a ≡ o → pair_order firsts seconds row.0 next.0 ≡ Less
      → AllByRecursion (λ s. seconds row.0.1 s ≡ Less) (under rows)
      → AllByRecursion (λ s. seconds row.0.1 s ≡ Less) (cond (is_eq o) (next.0.1 ∷ under rows) [])
  later_by row next rows Less same is less more = tt
  later_by row next rows Equal same is less more =
      let tied : firsts row.0.0 next.0.0 ≡ Equal = total_firsts.congr row.0.0 a next.0.0 same ∙ total_firsts.antisymm a next.0.0 ∙ ap ordering_reverse is in
      (ap (λ o. ordering_then o (seconds row.0.1 next.0.1)) (sym tied) ∙ less, more)
  later_by row next rows Greater same is less more = tt

  all_later : (row : (A × B) × V) (rows : List ((A × B) × V)) → firsts row.0.0 a ≡ Equal
      → AllByRecursion (λ p. pair_order firsts seconds row.0 p ≡ Less) (keys_of rows)
      → AllByRecursion (λ s. seconds row.0.1 s ≡ Less) (under rows)
  all_later row [] same later = tt
  all_later row (next ∷ rows) same later =
      subst (AllByRecursion (λ s. seconds row.0.1 s ≡ Less)) (sym (under-cons firsts a next rows))
      (later_by row next rows (firsts next.0.0 a) same refl later.0 (all_later row rows same later.1))

  sorted_by : (row : (A × B) × V) (rows : List ((A × B) × V)) (o : Ordering) → firsts row.0.0 a ≡ o
      → AllByRecursion (λ p. pair_order firsts seconds row.0 p ≡ Less) (keys_of rows)
      → IsStrictlySortedBy seconds (under rows) → IsStrictlySortedBy seconds (cond (is_eq o) (row.0.1 ∷ under rows) [])
  unfolding IsStrictlySortedBy
  sorted_by row rows Less is later more = tt
  sorted_by row rows Equal is later more = (all_later row rows is later, more)
  sorted_by row rows Greater is later more = tt

  sorted-under : (rows : List ((A × B) × V)) → IsAscending (pair_order firsts seconds) rows → IsStrictlySortedBy seconds (under rows)
  unfolding IsStrictlySortedBy
  sorted-under [] ascending = tt
  sorted-under (row ∷ rows) ascending =
      subst (IsStrictlySortedBy seconds) (sym (under-cons firsts a row rows))
      (sorted_by row rows (firsts row.0.0 a) refl (sorted_head (pair_order firsts seconds) row.0 (keys_of rows) ascending)
      (sorted-under rows (sorted_tail (pair_order firsts seconds) row.0 (keys_of rows) ascending)))

  -- ---- from the first pair that isn't below the first with the least second
  module _ (least : B) (is_least : (b : B) → is_lt (seconds b least) ≡ false) where
    abbrev from : List ((A × B) × V) → List ((A × B) × V)
    from rows = drop (lower_bound (pair_order firsts seconds) rows (a, least)) rows

    -- what holds of the pairs from there on, where pairs before don't count
    from_by : (P : List ((A × B) × V) → Type 0) (row : (A × B) × V) (rows : List ((A × B) × V)) (b : Bool)
        → is_lt (pair_order firsts seconds row.0 (a, least)) ≡ b
        → (firsts row.0.0 a ≡ Less → P (from rows)) → (is_lt (firsts row.0.0 a) ≡ false → P (row ∷ rows))
        → P (drop (cond b (1 + lower_bound (pair_order firsts seconds) rows (a, least)) 0) (row ∷ rows))
    from_by P row rows true is below here =
        let next : 1 + lower_bound (pair_order firsts seconds) rows (a, least) ≡ suc (lower_bound (pair_order firsts seconds) rows (a, least)) = omega arith in
        subst (λ n. P (drop n (row ∷ rows))) (sym next) (below (first_below_by (firsts row.0.0 a) (seconds row.0.1 least) (is_least row.0.1) is))
    from_by P row rows false is below here = here (first_reached_by (firsts row.0.0 a) (seconds row.0.1 least) is)

    pub among-from : (q : B) (rows : List ((A × B) × V)) → IsAscending (pair_order firsts seconds) rows
        → is_among seconds (under (from rows)) q ≡ has_pair firsts seconds rows a q
    among-from q [] ascending = refl
    among-from q (row ∷ rows) ascending =
        from_by (λ those. is_among seconds (under those) q ≡ has_pair firsts seconds (row ∷ rows) a q) row rows
        (is_lt (pair_order firsts seconds row.0 (a, least))) refl
        (λ less. among-from q rows (sorted_tail (pair_order firsts seconds) row.0 (keys_of rows) ascending)
        ∙ ap (λ o. is_some (cond (is_eq (ordering_then o (seconds row.0.1 q))) (Some row.1) (value_of (pair_order firsts seconds) rows (a, q)))) (sym less))
        (λ reached. among-under q (row ∷ rows) ascending reached)

    pub sorted-from : (rows : List ((A × B) × V)) → IsAscending (pair_order firsts seconds) rows → IsStrictlySortedBy seconds (under (from rows))
    unfolding IsStrictlySortedBy
    sorted-from [] ascending = tt
    sorted-from (row ∷ rows) ascending =
        from_by (λ those. IsStrictlySortedBy seconds (under those)) row rows (is_lt (pair_order firsts seconds row.0 (a, least))) refl
        (λ less. sorted-from rows (sorted_tail (pair_order firsts seconds) row.0 (keys_of rows) ascending))
        (λ reached. sorted-under (row ∷ rows) ascending)

-- ---- keys alone as rows, in the order of the keys, since what has no value ties always
then_equal : (o : Ordering) → ordering_then o Equal ≡ o
then_equal Less = refl
then_equal Equal = refl
then_equal Greater = refl

always_total : IsTotalOrder (λ (a b : Unit {0}). Equal)
always_total = search rules

module _ {K : Type 0} (order : K → K → Ordering) where
  abbrev pub row_order : K × Unit {0} → K × Unit {0} → Ordering
  row_order a b = ordering_then (order a.0 b.0) Equal

  pub total_rows : IsTotalOrder order → IsTotalOrder row_order
  total_rows total = then_total (on_total (λ (row : K × Unit {0}). row.0) total) (on_total (λ (row : K × Unit {0}). row.1) always_total)

  pub exact_rows : CmpEqualImpliesEq order → CmpEqualImpliesEq row_order
  exact_rows exact = exact_pairs order (λ (a b : Unit {0}). Equal) exact (λ a b e. refl)

  later_keys : (first : K × Unit {0}) (rows : List (K × Unit {0})) → AllByRecursion (λ row. row_order first row ≡ Less) rows
      → AllByRecursion (λ key. order first.0 key ≡ Less) (keys_of rows)
  later_keys first [] later = tt
  later_keys first (row ∷ rows) later = (sym (then_equal (order first.0 row.0)) ∙ later.0, later_keys first rows later.1)

  -- the keys of rows in order are in order
  pub rows_ascend : (rows : List (K × Unit {0})) → IsStrictlySortedBy row_order rows → IsAscending order rows
  unfolding IsStrictlySortedBy
  rows_ascend [] sorted = tt
  rows_ascend (row ∷ rows) sorted = (later_keys row rows sorted.0, rows_ascend rows sorted.1)

module _ {A B : Type 0} (firsts : A → A → Ordering) (seconds : B → B → Ordering) where
  -- a pair stands among rows where one of them is of it
  pub has-rows : (rows : List ((A × B) × Unit {0})) (a : A) (b : B)
      → has_pair firsts seconds rows a b ≡ list_any (λ (row : (A × B) × Unit {0}). same_pair firsts seconds row.0.0 row.0.1 a b) rows
  has-rows [] a b = refl
  has-rows (row ∷ rows) a b =
      put_some (is_eq (pair_order firsts seconds row.0 (a, b))) row.1 (value_of (pair_order firsts seconds) rows (a, b))
      ∙ ap (λ t. t || has_pair firsts seconds rows a b) (both_tie (firsts row.0.0 a) (seconds row.0.1 b))
      ∙ ap (λ t. same_pair firsts seconds row.0.0 row.0.1 a b || t) (has-rows rows a b)
