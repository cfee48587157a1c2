-- Every change of a table keeps its keys ascending.
use Rattle.std.proofs.Common.{◌≡◌, List, [], ◌∷◌, refl, sym, ◌∙◌, Ordering, Less, Equal, Greater, is_eq, Bool, ℕ, true, false, cond, is_lt, ◌+◌, arith}
use Rattle.std.proofs.Common.{get_or, ap, true≢false, ◌++◌, take, drop, take-append-drop}
use Rattle.std.specs.Cmp.{IsTotalOrder}
use Rattle.std.specs.Ordering.{match_ordering}
use Rattle.std.specs.List.{AllByRecursion}
use Rattle.std.specs.List.Sorted.{IsStrictlySortedBy}
use Rattle.std.specs.Map.{keys_of}
use Rattle.std.specs.List.{IsAllAdjacentAnswer}
use Rattle.std.proofs.lemmas.Map.Keys.{sorted_from_all_adjacent, Less-from_sorted}
use Rattle.std.proofs.lemmas.Map.Entries.{length-keys_of}
use Rattle.std.proofs.Math.ListN.{get_or-map}
use Rattle.row_spec.specs.Rows.{IsAscending, with_row, without_key}
use Rattle.row_spec.proofs.Place.{turned, less_from_test}

-- no rows ascend
pub IsAscending-empty : {K : Type 0} (V : Type 0) (cmp : K → K → Ordering) → IsAscending {V = V} cmp []
unfolding IsStrictlySortedBy
IsAscending-empty V cmp = tt

-- what holds of each key holds of each key of a part
pub each_key-left : {K V : Type 0} (P : K → Type 0) (front back : List (K × V)) → AllByRecursion P (keys_of (front ++ back)) → AllByRecursion P (keys_of front)
each_key-left P [] back all = tt
each_key-left P (row ∷ front) back all = (all.0, each_key-left P front back all.1)

pub each_key-right : {K V : Type 0} (P : K → Type 0) (front back : List (K × V)) → AllByRecursion P (keys_of (front ++ back)) → AllByRecursion P (keys_of back)
each_key-right P [] back all = all
each_key-right P (row ∷ front) back all = each_key-right P front back all.1

module _ {K V : Type 0} (cmp : K → K → Ordering) where
  -- what holds of the key and of every key of the rows holds of every key after the change
  each_key-with_row : (P : K → Type 0) (rows : List (K × V)) (key : K) (value : V) → P key → AllByRecursion P (keys_of rows)
      → AllByRecursion P (keys_of (with_row cmp rows key value))
  each_key-with_row P [] key value here all = (here, tt)
  each_key-with_row P (row ∷ rows) key value here all =
      elim (cmp row.0 key) as (λ answer. AllByRecursion P (keys_of
      (match_ordering answer (row ∷ with_row cmp rows key value) ((key, value) ∷ rows) ((key, value) ∷ row ∷ rows)))) [
        | Less ↦ (all.0, each_key-with_row P rows key value here all.1)
        | Equal ↦ (here, all.1)
        | Greater ↦ (here, all)
      ]

  each_key-without_key : (P : K → Type 0) (rows : List (K × V)) (key : K) → AllByRecursion P (keys_of rows)
      → AllByRecursion P (keys_of (without_key cmp rows key))
  each_key-without_key P [] key all = tt
  each_key-without_key P (row ∷ rows) key all =
      elim (is_eq (cmp row.0 key)) as (λ same. AllByRecursion P (keys_of (cond same rows (row ∷ without_key cmp rows key)))) [
        | true ↦ all.1
        | false ↦ (all.0, each_key-without_key P rows key all.1)
      ]

  pub IsAscending-left : (front back : List (K × V)) → IsAscending cmp (front ++ back) → IsAscending cmp front
  unfolding IsStrictlySortedBy
  IsAscending-left [] back ascending = tt
  IsAscending-left (row ∷ front) back ascending = (each_key-left (λ k. cmp row.0 k ≡ Less) front back ascending.0, IsAscending-left front back ascending.1)

  pub IsAscending-right : (front back : List (K × V)) → IsAscending cmp (front ++ back) → IsAscending cmp back
  unfolding IsStrictlySortedBy
  IsAscending-right [] back ascending = ascending
  IsAscending-right (row ∷ front) back ascending = IsAscending-right front back ascending.1

  pub IsAscending-take : (place : ℕ) (rows : List (K × V)) → IsAscending cmp rows → IsAscending cmp (take place rows)
  IsAscending-take place rows ascending = IsAscending-left (take place rows) (drop place rows) (rw take-append-drop ascending)

  pub IsAscending-drop : (place : ℕ) (rows : List (K × V)) → IsAscending cmp rows → IsAscending cmp (drop place rows)
  IsAscending-drop place rows ascending = IsAscending-right (take place rows) (drop place rows) (rw take-append-drop ascending)

  pub IsAscending-without_key : (rows : List (K × V)) (key : K) → IsAscending cmp rows → IsAscending cmp (without_key cmp rows key)
  unfolding IsStrictlySortedBy
  IsAscending-without_key [] key ascending = tt
  IsAscending-without_key (row ∷ rows) key ascending =
      elim (is_eq (cmp row.0 key)) as (λ same. IsAscending cmp (cond same rows (row ∷ without_key cmp rows key))) [
        | true ↦ ascending.1
        | false ↦ (each_key-without_key (λ k. cmp row.0 k ≡ Less) rows key ascending.0, IsAscending-without_key rows key ascending.1)
      ]

  module _ (total : IsTotalOrder cmp) where
    -- a key that ties with a key below all of the rows is below all of them
    below_from_tied : (first key : K) (rows : List (K × V)) → cmp first key ≡ Equal → AllByRecursion (λ k. cmp first k ≡ Less) (keys_of rows)
        → AllByRecursion (λ k. cmp key k ≡ Less) (keys_of rows)
    below_from_tied first key [] same below = tt
    below_from_tied first key (row ∷ rows) same below = (sym (total.congr first key row.0 same) ∙ below.0, below_from_tied first key rows same below.1)

    -- so is a key below that one
    below_from_below : (first key : K) (rows : List (K × V)) → cmp key first ≡ Less → AllByRecursion (λ k. cmp first k ≡ Less) (keys_of rows)
        → AllByRecursion (λ k. cmp key k ≡ Less) (keys_of rows)
    below_from_below first key [] less below = tt
    below_from_below first key (row ∷ rows) less below = (total.trans key first row.0 less below.0, below_from_below first key rows less below.1)

    pub IsAscending-with_row : (rows : List (K × V)) (key : K) (value : V) → IsAscending cmp rows → IsAscending cmp (with_row cmp rows key value)
    unfolding IsStrictlySortedBy
    IsAscending-with_row [] key value ascending = (tt, tt)
    IsAscending-with_row (row ∷ rows) key value ascending =
        elim (cmp row.0 key) as (λ answer. cmp row.0 key ≡ answer
        → IsAscending cmp (match_ordering answer (row ∷ with_row cmp rows key value) ((key, value) ∷ rows) ((key, value) ∷ row ∷ rows))) [
          | Less ↦ λ is. (each_key-with_row (λ k. cmp row.0 k ≡ Less) rows key value is ascending.0, IsAscending-with_row rows key value ascending.1)
          | Equal ↦ λ is. (below_from_tied row.0 key rows is ascending.0, ascending.1)
          | Greater ↦ λ is. let less = turned total row.0 key Greater is in ((less, below_from_below row.0 key rows less ascending.0), ascending)
        ] refl

    -- what a look at each row and the next says of all of them
    pub ascending_from_neighbours : (rows : List (K × V)) (answer : Bool) → IsAllAdjacentAnswer (λ x y b. b ≡ is_lt (cmp x.0 y.0)) rows answer
        → answer ≡ true → IsAscending cmp rows
    ascending_from_neighbours [] answer seen holds = IsAscending-empty V cmp
    ascending_from_neighbours (row ∷ rows) true seen holds = sorted_from_all_adjacent total (keys_of (row ∷ rows)) row.0 (λ k within.
        let at = seen k row (omega (arith, length-keys_of (row ∷ rows))) in
        less_from_test _ (rw (get_or-map (λ (r : K × V). r.0) (row ∷ rows) k row, get_or-map (λ (r : K × V). r.0) (row ∷ rows) (k + 1) row) (sym at)))
    ascending_from_neighbours (row ∷ rows) false seen holds = absurd (true≢false (sym holds))

    pub neighbours_from_ascending : (rows : List (K × V)) (answer : Bool) → IsAllAdjacentAnswer (λ x y b. b ≡ is_lt (cmp x.0 y.0)) rows answer
        → IsAscending cmp rows → answer ≡ true
    neighbours_from_ascending rows true seen ascending = refl
    neighbours_from_ascending [] false seen ascending = absurd (omega (arith, seen.1))
    neighbours_from_ascending (row ∷ rows) false seen ascending =
        let less = Less-from_sorted cmp (keys_of (row ∷ rows)) seen.0 (seen.0 + 1) row.0 ascending (omega arith)
        (omega (arith, seen.1, length-keys_of (row ∷ rows))) in
        let here : cmp (get_or (row ∷ rows) seen.0 row).0 (get_or (row ∷ rows) (seen.0 + 1) row).0 ≡ Less =
        rw (← get_or-map (λ (r : K × V). r.0) (row ∷ rows) seen.0 row, ← get_or-map (λ (r : K × V). r.0) (row ∷ rows) (seen.0 + 1) row) less in
        seen.2 row ∙ ap is_lt here
