-- What a search finds among ascending rows, and what the definitions of a table give at that place.
use Rattle.std.proofs.Common.{◌≡◌, ℕ, zero, suc, ◌+◌, ◌<◌, ◌≤◌, List, [], ◌∷◌, ◌++◌, length, get_or, set, take, drop, insert, remove, Some, None, Result, Ok}
use Rattle.std.proofs.Common.{Err, MatchResult, refl, sym, ap, ◌∙◌, arith, Ordering, Less, Equal, Greater, is_lt, take-append-drop, drop-cons, length-take}
use Rattle.std.proofs.Common.{true≢false, true, false, cond, is_gt}
use Rattle.std.specs.Cmp.{IsTotalOrder, alike_right}
use Rattle.std.specs.Ordering.{ordering_index, ordering_reverse}
use Rattle.std.specs.List.{AllByRecursion, AllWithin, HoldsAt}
use Rattle.std.specs.List.Sorted.{IsSearchInRange, IsBinarySearchResult, IsNonDecreasingBy}
use Rattle.std.specs.Map.{keys_of}
use Rattle.std.proofs.lemmas.Map.Keys.{sorted_head, sorted_tail, Less-from_sorted}
use Rattle.std.proofs.lemmas.List.Sorted.{searchable_from_sorted}
use Rattle.std.proofs.lemmas.Map.Entries.{length-keys_of}
use Rattle.std.proofs.Math.ListN.{get_or-map}
use Rattle.row_spec.specs.Rows.{IsAscending, value_of, with_row, without_key, lower_bound, EachKeyIs, IsRowAt, IsGapAt}

-- what holds of each element before a place holds of the front
pub front_from_within : {X : Type 0} (P : X → Type 0) (xs : List X) (i : ℕ) → i ≤ length xs → AllWithin P xs 0 i → AllByRecursion P (take i xs)
front_from_within P [] zero le within = tt
front_from_within P [] (suc i) le within = tt
front_from_within P (x ∷ xs) zero le within = tt
front_from_within P (x ∷ xs) (suc i) le within = (
  within zero x (omega arith) (omega arith),
  front_from_within P xs i (omega arith) (λ k d low high. within (suc k) d (omega arith) (omega arith)),
)

-- what holds of each element from a place on holds of the back
pub back_from_within : {X : Type 0} (P : X → Type 0) (xs : List X) (i : ℕ) → AllWithin P xs i (length xs) → AllByRecursion P (drop i xs)
back_from_within P [] zero within = tt
back_from_within P [] (suc i) within = tt
back_from_within P (x ∷ xs) zero within = (
  within zero x (omega arith) (omega arith),
  back_from_within P xs zero (λ k d low high. within (suc k) d (omega arith) (omega arith)),
)
back_from_within P (x ∷ xs) (suc i) within = back_from_within P xs i (λ k d low high. within (suc k) d (omega arith) (omega arith))

-- the one answer that passes the test for below
pub less_from_test : (answer : Ordering) → is_lt answer ≡ true → answer ≡ Less
less_from_test Less holds = refl
less_from_test Equal holds = absurd (true≢false (sym holds))
less_from_test Greater holds = absurd (true≢false (sym holds))

-- the answer the other way round
pub turned : {K : Type 0} {cmp : K → K → Ordering} → IsTotalOrder cmp → (x y : K) (answer : Ordering) → cmp x y ≡ answer → cmp y x ≡ ordering_reverse answer
turned total x y answer is = total.antisymm y x ∙ ap ordering_reverse is

-- what is below a key is below a greater one
is_lt-trans : {K : Type 0} {cmp : K → K → Ordering} → IsTotalOrder cmp → (x y z : K) (answer : Ordering) → cmp y z ≡ answer
    → is_gt answer ≡ false → cmp x y ≡ Less → cmp x z ≡ Less
is_lt-trans total x y z Less is le less = total.trans x y z less is
is_lt-trans total x y z Equal is le less = sym (alike_right total y z x is) ∙ less
is_lt-trans total x y z Greater is le less = absurd (true≢false le)

module _ {K V : Type 0} (cmp : K → K → Ordering) where
  -- rows whose keys are below the key stay in front
  pub with_row-append_below : (front back : List (K × V)) (key : K) (value : V) → EachKeyIs cmp Less key front
      → with_row cmp (front ++ back) key value ≡ front ++ with_row cmp back key value
  with_row-append_below [] back key value below = refl
  with_row-append_below (row ∷ front) back key value below = rw below.0 (ap (λ rows. row ∷ rows) (with_row-append_below front back key value below.1))

  -- before rows whose keys are above the key, the row goes first
  pub with_row-above : (back : List (K × V)) (key : K) (value : V) → EachKeyIs cmp Greater key back → with_row cmp back key value ≡ (key, value) ∷ back
  with_row-above [] key value above = refl
  with_row-above (row ∷ back) key value above = rw above.0

  pub value_of-append_below : (front back : List (K × V)) (key : K) → EachKeyIs cmp Less key front → value_of cmp (front ++ back) key ≡ value_of cmp back key
  value_of-append_below [] back key below = refl
  value_of-append_below (row ∷ front) back key below = rw below.0 (value_of-append_below front back key below.1)

  pub value_of-above : (back : List (K × V)) (key : K) → EachKeyIs cmp Greater key back → value_of cmp back key ≡ None
  value_of-above [] key above = refl
  value_of-above (row ∷ back) key above = rw above.0 (value_of-above back key above.1)

  pub without_key-append_below : (front back : List (K × V)) (key : K) → EachKeyIs cmp Less key front
      → without_key cmp (front ++ back) key ≡ front ++ without_key cmp back key
  without_key-append_below [] back key below = refl
  without_key-append_below (row ∷ front) back key below = rw below.0 (ap (λ rows. row ∷ rows) (without_key-append_below front back key below.1))

  pub without_key-above : (back : List (K × V)) (key : K) → EachKeyIs cmp Greater key back → without_key cmp back key ≡ back
  without_key-above [] key above = refl
  without_key-above (row ∷ back) key above = rw above.0 (ap (λ rows. row ∷ rows) (without_key-above back key above.1))

  pub lower_bound-append_below : (front back : List (K × V)) (key : K) → EachKeyIs cmp Less key front
      → lower_bound cmp (front ++ back) key ≡ length front + lower_bound cmp back key
  lower_bound-append_below [] back key below = omega arith
  lower_bound-append_below (row ∷ front) back key below = rw below.0 (let rest = lower_bound-append_below front back key below.1 in omega arith)

  pub lower_bound-above : (back : List (K × V)) (key : K) → EachKeyIs cmp Greater key back → lower_bound cmp back key ≡ 0
  lower_bound-above [] key above = refl
  lower_bound-above (row ∷ back) key above = rw above.0

  -- the rows as what stands before a place, at it and after it
  parted : (rows : List (K × V)) (place : ℕ) (row : K × V) → place < length rows → rows ≡ take place rows ++ get_or rows place row ∷ drop (suc place) rows
  parted rows place row in_range = sym (take-append-drop place rows) ∙ ap (λ back. take place rows ++ back) (drop-cons rows place row in_range)

  -- a write in the middle
  set_parted : (rows : List (K × V)) (place : ℕ) (row : K × V) → place < length rows → set rows place row ≡ take place rows ++ row ∷ drop (suc place) rows
  set_parted [] place row in_range = absurd (omega arith)
  set_parted (first ∷ rows) zero row in_range = refl
  set_parted (first ∷ rows) (suc place) row in_range = ap (λ rest. first ∷ rest) (set_parted rows place row (omega arith))

  module _ (rows : List (K × V)) (key : K) (place : ℕ) (row : K × V) (found : IsRowAt cmp rows key place) where
    same_here : cmp (get_or rows place row).0 key ≡ Equal
    same_here = found.same row

    pub value_of_found : value_of cmp rows key ≡ Some (get_or rows place row).1
    value_of_found = ap (λ all. value_of cmp all key) (parted rows place row found.in_range) ∙ value_of-append_below (take place rows)
        (get_or rows place row ∷ drop (suc place) rows) key found.below ∙ rw same_here refl

    without_key_at : without_key cmp rows key ≡ remove rows place
    without_key_at = ap (λ all. without_key cmp all key) (parted rows place row found.in_range) ∙ without_key-append_below
        (take place rows) (get_or rows place row ∷ drop (suc place) rows) key found.below ∙ rw same_here refl

    lower_bound_at : lower_bound cmp rows key ≡ place
    lower_bound_at = ap (λ all. lower_bound cmp all key) (parted rows place row found.in_range) ∙ lower_bound-append_below
        (take place rows) (get_or rows place row ∷ drop (suc place) rows) key found.below ∙ rw same_here (let n = length-take place rows in
        let i = found.in_range in omega arith)

    with_row_at : (value : V) → with_row cmp rows key value ≡ set rows place (key, value)
    with_row_at value = ap (λ all. with_row cmp all key value) (parted rows place row found.in_range)
        ∙ with_row-append_below (take place rows) (get_or rows place row ∷ drop (suc place) rows) key value found.below
        ∙ rw same_here (sym (set_parted rows place (key, value) found.in_range))

  -- the same where no row is at hand
  pub without_key_found : (rows : List (K × V)) (key : K) (place : ℕ) → IsRowAt cmp rows key place → without_key cmp rows key ≡ remove rows place
  without_key_found [] key place found = absurd (omega (arith, found.in_range))
  without_key_found (row ∷ rows) key place found = without_key_at (row ∷ rows) key place row found

  pub lower_bound_found : (rows : List (K × V)) (key : K) (place : ℕ) → IsRowAt cmp rows key place → lower_bound cmp rows key ≡ place
  lower_bound_found [] key place found = absurd (omega (arith, found.in_range))
  lower_bound_found (row ∷ rows) key place found = lower_bound_at (row ∷ rows) key place row found

  pub with_row_found : (rows : List (K × V)) (key : K) (value : V) (place : ℕ) → IsRowAt cmp rows key place
      → with_row cmp rows key value ≡ set rows place (key, value)
  with_row_found [] key value place found = absurd (omega (arith, found.in_range))
  with_row_found (row ∷ rows) key value place found = with_row_at (row ∷ rows) key place row found value

  module _ (rows : List (K × V)) (key : K) (place : ℕ) (gap : IsGapAt cmp rows key place) where
    cut : rows ≡ take place rows ++ drop place rows
    cut = sym (take-append-drop place rows)

    pub value_of_gap : value_of cmp rows key ≡ None
    value_of_gap = ap (λ all. value_of cmp all key) cut ∙ value_of-append_below (take place rows) (drop place rows) key gap.below
        ∙ value_of-above (drop place rows) key gap.above

    pub without_key_gap : without_key cmp rows key ≡ rows
    without_key_gap = ap (λ all. without_key cmp all key) cut ∙ without_key-append_below (take place rows) (drop place rows) key gap.below
        ∙ ap (λ back. take place rows ++ back) (without_key-above (drop place rows) key gap.above) ∙ sym cut

    pub lower_bound_gap : lower_bound cmp rows key ≡ place
    lower_bound_gap = ap (λ all. lower_bound cmp all key) cut ∙ lower_bound-append_below (take place rows) (drop place rows) key gap.below
        ∙ (let none = lower_bound-above (drop place rows) key gap.above in let n = length-take place rows in let i = gap.in_range in omega arith)

    pub with_row_gap : (value : V) → with_row cmp rows key value ≡ insert rows place (key, value)
    with_row_gap value = ap (λ all. with_row cmp all key value) cut ∙ with_row-append_below (take place rows)
        (drop place rows) key value gap.below ∙ ap (λ back. take place rows ++ back) (with_row-above (drop place rows) key value gap.above)

  module _ (total : IsTotalOrder cmp) where
    -- keys above a key that ties with this one are above this one
    pub above_tied : (first key : K) (rows : List (K × V)) → cmp first key ≡ Equal → AllByRecursion (λ k. cmp first k ≡ Less) (keys_of rows)
        → EachKeyIs cmp Greater key rows
    above_tied first key [] same above = tt
    above_tied first key (row ∷ rows) same above = (
      turned total key row.0 Less (sym (total.congr first key row.0 same) ∙ above.0),
      above_tied first key rows same above.1,
    )

    -- keys above a key that is above this one are above this one
    pub above_greater : (first key : K) (rows : List (K × V)) → cmp first key ≡ Greater → AllByRecursion (λ k. cmp first k ≡ Less) (keys_of rows)
        → EachKeyIs cmp Greater key rows
    above_greater first key [] greater above = tt
    above_greater first key (row ∷ rows) greater above = (
      turned total key row.0 Less
          (total.trans key first row.0 (turned total first key Greater greater) above.0),
      above_greater first key rows greater above.1,
    )

    one_of_all : (P : K → Type 0) (rows : List (K × V)) (place : ℕ) (row : K × V) → place < length rows → AllByRecursion P (keys_of rows)
        → P (get_or rows place row).0
    one_of_all P [] place row in_range all = absurd (omega arith)
    one_of_all P (first ∷ rows) zero row in_range all = all.0
    one_of_all P (first ∷ rows) (suc place) row in_range all = one_of_all P rows place row (omega arith) all.1

    -- the place of a row that has the key
    pub row_at_from_same : (rows : List (K × V)) (key : K) (place : ℕ) → IsAscending cmp rows → place < length rows
        → HoldsAt (λ row. cmp row.0 key ≡ Equal) rows place → IsRowAt cmp rows key place
    row_at_from_same [] key place ascending in_range same = absurd (omega arith)
    row_at_from_same (first ∷ rows) key zero ascending in_range same = record {
      in_range = in_range;
      below = tt;
      same = same;
      above = above_tied first.0 key rows (same first) (sorted_head cmp first.0 (keys_of rows) ascending);
    }
    row_at_from_same (first ∷ rows) key (suc place) ascending in_range same =
        let rest = row_at_from_same rows key place (sorted_tail cmp first.0 (keys_of rows) ascending) (omega arith) (λ d. same d) in
        record {
          in_range = in_range;
          below = (
            sym (alike_right total (get_or rows place first).0 key first.0 (same first))
                ∙ one_of_all (λ k. cmp first.0 k ≡ Less) rows place first (omega arith) (sorted_head cmp first.0 (keys_of rows) ascending),
            rest.below,
          );
          same = same;
          above = rest.above;
        }

    -- ascending rows in the form that a binary search asks for
    searchable : (rows : List (K × V)) (key : K) → IsAscending cmp rows → IsNonDecreasingBy (λ row. ordering_index (cmp row.0 key)) rows
    searchable rows key ascending = searchable_from_sorted total (λ (row : K × V). row.0) rows key (λ k d low high.
        let below = Less-from_sorted cmp (keys_of rows) k (k + 1) d.0 ascending (omega arith) (omega (arith, length-keys_of rows)) in
        ap is_lt (turned total (get_or rows k d).0 (get_or rows (k + 1) d).0 Less
        (rw (← get_or-map (λ (row : K × V). row.0) rows k d, ← get_or-map (λ (row : K × V). row.0) rows (k + 1) d) below)))

    -- a binary search ends at the row that has the key, or at the gap for it
    pub searched : (rows : List (K × V)) (key : K) (r : Result ℕ ℕ) → IsAscending cmp rows → IsSearchInRange r (length rows)
        → IsBinarySearchResult (λ row. cmp row.0 key) rows r → MatchResult r (IsRowAt cmp rows key) (IsGapAt cmp rows key)
    searched rows key (Ok place) ascending in_range same = row_at_from_same rows key place ascending in_range same
    searched rows key (Err place) ascending in_range parts =
        let point = parts (searchable rows key ascending) in
        record {
          in_range = in_range;
          below = front_from_within (λ row. cmp row.0 key ≡ Less) rows place in_range point.0;
          above = back_from_within (λ row. cmp row.0 key ≡ Greater) rows place point.1;
        }

    -- a greater key has no lower place
    pub lower_bound-mono : (rows : List (K × V)) (from to : K) → is_gt (cmp from to) ≡ false → lower_bound cmp rows from ≤ lower_bound cmp rows to
    lower_bound-mono [] from to le = omega arith
    lower_bound-mono (row ∷ rows) from to le =
        let rest = lower_bound-mono rows from to le in
        elim (cmp row.0 from) as (λ answer. cmp row.0 from ≡ answer → cond (is_lt answer) (1 + lower_bound cmp rows from) 0 ≤ lower_bound cmp (row ∷ rows) to) [
          | Less ↦ λ is. rw (is_lt-trans total row.0 from to (cmp from to) refl le is) (omega arith)
          | Equal ↦ λ is. omega arith
          | Greater ↦ λ is. omega arith
        ] refl
