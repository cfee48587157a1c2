-- The block that has a key or that the key goes to.
use Rattle.std.proofs.Common.{◌≡◌, ℕ, zero, suc, ◌-◌, ◌<◌, ◌≤◌, List, [], ◌∷◌, ◌++◌, length, take, drop, get_or, refl, sym, ap, subst, ◌∙◌, arith, Ordering}
use Rattle.std.proofs.Common.{Less, Equal, Greater, is_le, Bool, true, false, true≢false, All, None, append-nil, append_assoc}
use Rattle.std.specs.Cmp.{IsTotalOrder, alike_right}
use Rattle.std.specs.List.{AllByRecursion}
use Rattle.std.specs.List.Sorted.{IsPartitionedBy, IsPartitionPoint}
use Rattle.std.specs.Map.{keys_of}
use Rattle.std.proofs.lemmas.Map.Keys.{sorted_head, sorted_tail}
use Rattle.row_spec.specs.Rows.{Run, IsAscending, EachKeyIs, begins_by, with_row, value_of}
use Rattle.row_spec.specs.Blocks.{joined, block_at, rows_of, IsFilled, IsBlockFor}
use Rattle.row_spec.proofs.Ascending.{each_key-right, IsAscending-right}
use Rattle.row_spec.proofs.Place.{above_greater, with_row-append_below, value_of-append_below}
use Rattle.std.proofs.lemmas.List.{get_or-map, length-map}
use Rattle.row_spec.proofs.Joined.{joined_parted}
use Rattle.row_spec.proofs.Runs.{some_row}

-- what is below a key that is not above another is below that one
less_from_le : {K : Type 0} {cmp : K → K → Ordering} → IsTotalOrder cmp → (x y z : K) (answer : Ordering) → cmp y z ≡ answer
    → is_le answer ≡ true → cmp x y ≡ Less → cmp x z ≡ Less
less_from_le total x y z Less is le less = total.trans x y z less is
less_from_le total x y z Equal is le less = sym (alike_right total y z x is) ∙ less
less_from_le total x y z Greater is le less = absurd (true≢false (sym le))

greater_from_not_le : (answer : Ordering) → is_le answer ≡ false → answer ≡ Greater
greater_from_not_le Less untrue = absurd (true≢false untrue)
greater_from_not_le Equal untrue = absurd (true≢false untrue)
greater_from_not_le Greater untrue = refl

module _ {K V : Type 0} (cmp : K → K → Ordering) (total : IsTotalOrder cmp) (key : K) where
  -- the rows before one that is not above the key are below it
  below_from_row : (front : List (K × V)) (row : K × V) (back : List (K × V)) → IsAscending cmp (front ++ row ∷ back)
      → is_le (cmp row.0 key) ≡ true → EachKeyIs cmp Less key front
  below_from_row [] row back ascending le = tt
  below_from_row (first ∷ front) row back ascending le =
      let less = each_key-right (λ k. cmp first.0 k ≡ Less) front (row ∷ back) (sorted_head cmp first.0 (keys_of (front ++ row ∷ back)) ascending) in (
        less_from_le total first.0 row.0 key (cmp row.0 key) refl le less.0,
        below_from_row front row back (sorted_tail cmp first.0 (keys_of (front ++ row ∷ back)) ascending) le,
      )

  below_from_begin : (front block back : List (K × V)) → IsAscending cmp (front ++ (block ++ back)) → begins_by cmp block key ≡ true
      → EachKeyIs cmp Less key front
  below_from_begin front [] back ascending begins = absurd (true≢false (sym begins))
  below_from_begin front (row ∷ block) back ascending begins = below_from_row front row (block ++ back) ascending begins

  pub below_block : (blocks : List (List (K × V))) (i : ℕ) → i < length blocks → IsAscending cmp (joined blocks)
      → begins_by cmp (block_at blocks i) key ≡ true → EachKeyIs cmp Less key (joined (take i blocks))
  below_block blocks i lt ascending begins = below_from_begin (joined (take i blocks)) (block_at blocks i) (joined (drop (suc i) blocks))
      (rw (← joined_parted blocks i lt) ascending) begins

  pub above_from_begin : (block back : List (K × V)) → IsAscending cmp (block ++ back) → 0 < length block → begins_by cmp block key ≡ false
      → EachKeyIs cmp Greater key (block ++ back)
  above_from_begin [] back ascending some unbegun = absurd (omega arith)
  above_from_begin (row ∷ block) back ascending some unbegun =
      let greater = greater_from_not_le (cmp row.0 key) unbegun in
      (greater, above_greater cmp total row.0 key (block ++ back) greater (sorted_head cmp row.0 (keys_of (block ++ back)) ascending))

  pub above_block : (blocks : List (List (K × V))) (i : ℕ) → ((k : ℕ) → k < length blocks → 0 < length (block_at blocks k))
      → IsAscending cmp (joined blocks) → (i < length blocks → begins_by cmp (block_at blocks i) key ≡ false)
      → EachKeyIs cmp Greater key (joined (drop i blocks))
  above_block [] zero some ascending unbegun = tt
  above_block [] (suc i) some ascending unbegun = tt
  above_block (block ∷ blocks) zero some ascending unbegun = above_from_begin block (joined blocks) ascending (some 0 (omega arith)) (unbegun (omega arith))
  above_block (block ∷ blocks) (suc i) some ascending unbegun =
      above_block blocks i (λ k lt. some (suc k) (omega arith)) (IsAscending-right cmp block (joined blocks) ascending) (λ lt. unbegun (omega arith))

  each-right : (answer : Ordering) (front back : List (K × V)) → EachKeyIs cmp answer key (front ++ back) → EachKeyIs cmp answer key back
  each-right answer [] back each = each
  each-right answer (row ∷ front) back each = each-right answer front back each.1

  above_next : (blocks : List (List (K × V))) (i : ℕ) → EachKeyIs cmp Greater key (joined (drop i blocks))
      → EachKeyIs cmp Greater key (joined (drop (suc i) blocks))
  above_next [] zero each = tt
  above_next [] (suc i) each = tt
  above_next (block ∷ blocks) zero each = each-right Greater block (joined blocks) each
  above_next (block ∷ blocks) (suc i) each = above_next blocks i each

  -- a key below a run's first row is not above the key where that row is not
  first_not_above : (first : K) (runs : List (Run K V)) (j : ℕ) (d : Run K V) → AllByRecursion (λ k. cmp first k ≡ Less)
      (keys_of (joined (rows_of runs))) → j < length runs → begins_by cmp (get_or runs j d).rows key ≡ true → is_le (cmp first key) ≡ true
  first_not_above first [] j d all lt begins = absurd (omega arith)
  first_not_above first (run ∷ runs) zero d all lt begins = at_first run.rows (joined (rows_of runs)) first all begins
    where
      at_first : (block back : List (K × V)) (first : K) → AllByRecursion (λ k. cmp first k ≡ Less) (keys_of (block ++ back))
          → begins_by cmp block key ≡ true → is_le (cmp first key) ≡ true
      at_first [] back first all begins = absurd (true≢false (sym begins))
      at_first (row ∷ block) back first all begins = ap is_le (less_from_le total first row.0 key (cmp row.0 key) refl begins all.0)
  first_not_above first (run ∷ runs) (suc j) d all lt begins =
      first_not_above first runs j d (each_key-right (λ k. cmp first k ≡ Less) run.rows (joined (rows_of runs)) all) (omega arith) begins

  -- the runs that begin by the key stand in front
  pub begins_parted : (runs : List (Run K V)) → All IsFilled runs → IsAscending cmp (joined (rows_of runs))
      → IsPartitionedBy (λ run. begins_by cmp run.rows key) runs
  begins_parted [] filled ascending i j d le lt begins = absurd (omega arith)
  begins_parted (run ∷ runs) filled ascending zero zero d le lt begins = begins
  begins_parted (run ∷ runs) filled ascending (suc i) zero d le lt begins = absurd (omega arith)
  begins_parted (run ∷ runs) filled ascending zero (suc j) d le lt begins = head run.rows (filled 0 run (omega arith)).some ascending
    where
      head : (block : List (K × V)) → 0 < length block → IsAscending cmp (block ++ joined (rows_of runs)) → begins_by cmp block key ≡ true
      head [] some ascending = absurd (omega arith)
      head (row ∷ block) some ascending = first_not_above row.0 runs j d
          (each_key-right (λ k. cmp row.0 k ≡ Less) block (joined (rows_of runs))
          (sorted_head cmp row.0 (keys_of (block ++ joined (rows_of runs))) ascending)) (omega arith) begins
  begins_parted (run ∷ runs) filled ascending (suc i) (suc j) d le lt begins =
      begins_parted runs (λ k e below. filled (suc k) e (omega arith)) (IsAscending-right cmp run.rows (joined (rows_of runs)) ascending) i j d
      (omega arith) (omega arith) begins

  begins_at : (run : Run K V) (runs : List (Run K V)) (k : ℕ) (answer : Bool) → k < length (run ∷ runs)
      → begins_by cmp (get_or (run ∷ runs) k run).rows key ≡ answer → begins_by cmp (block_at (rows_of (run ∷ runs)) k) key ≡ answer
  begins_at run runs k answer lt begins = ap (λ rows. begins_by cmp rows key) (get_or-map (λ r. r.rows) (run ∷ runs) k run [] lt) ∙ begins

  -- the block before the first that does not begin by the key has the key or a place for it
  pub block_found : (runs : List (Run K V)) (n i : ℕ) → All IsFilled runs → IsAscending cmp (joined (rows_of runs)) → 0 < length (rows_of runs)
      → n ≤ length runs → i ≡ n - 1 → IsPartitionPoint (λ run. begins_by cmp run.rows key ≡ true)
      (λ run. begins_by cmp run.rows key ≡ false) runs n → IsBlockFor cmp (rows_of runs) key i
  block_found [] n i filled ascending some within is point = absurd (omega arith)
  block_found (run ∷ runs) zero i filled ascending some within is point =
      let first : 0 ≡ i = omega arith in
      subst (IsBlockFor cmp (rows_of (run ∷ runs)) key) first (record {
        in_range = some;
        below = tt;
        above = above_next (rows_of (run ∷ runs)) 0 (above_block (rows_of (run ∷ runs)) 0 (some_row (run ∷ runs) filled) ascending
            (λ lt. begins_at run runs 0 false (omega arith) (point.1 0 run (omega arith) (omega arith))));
      })
  block_found (run ∷ runs) (suc m) i filled ascending some within is point =
      let before : m ≡ i = omega arith in
      let in_blocks : m < length (rows_of (run ∷ runs)) = omega (arith, length-map (run ∷ runs) (λ r. r.rows)) in
      subst (IsBlockFor cmp (rows_of (run ∷ runs)) key) before (record {
        in_range = in_blocks;
        below = below_block (rows_of (run ∷ runs)) m in_blocks ascending (begins_at run runs m true (omega arith) (point.0 m run (omega arith) (omega arith)));
        above = above_block (rows_of (run ∷ runs)) (suc m) (some_row (run ∷ runs) filled) ascending
            (λ lt. begins_at run runs (suc m) false (omega (arith, length-map (run ∷ runs) (λ r. r.rows)))
            (point.1 (suc m) run (omega arith) (omega (arith, length-map (run ∷ runs) (λ r. r.rows)))));
      })

  keys_below : (front : List (K × V)) (value : V) (back : List (K × V)) → IsAscending cmp (front ++ (key, value) ∷ back) → EachKeyIs cmp Less key front
  keys_below [] value back ascending = tt
  keys_below (first ∷ front) value back ascending =
      let less = each_key-right (λ k. cmp first.0 k ≡ Less) front ((key, value) ∷ back)
      (sorted_head cmp first.0 (keys_of (front ++ (key, value) ∷ back)) ascending) in
      (less.0, keys_below front value back (sorted_tail cmp first.0 (keys_of (front ++ (key, value) ∷ back)) ascending))

  -- a key above all rows goes to their end
  pub with_row-last : (front : List (K × V)) (value : V) (back : List (K × V)) → IsAscending cmp (front ++ (key, value) ∷ back)
      → with_row cmp front key value ++ back ≡ front ++ (key, value) ∷ back
  with_row-last front value back ascending =
      ap (λ rows. with_row cmp rows key value ++ back) (sym (append-nil front)) ∙ ap (λ rows. rows ++ back)
      (with_row-append_below cmp front [] key value (keys_below front value back ascending)) ∙ append_assoc front ((key, value) ∷ []) back

  pub value_of-last : (front : List (K × V)) (value : V) (back : List (K × V)) → IsAscending cmp (front ++ (key, value) ∷ back) → value_of cmp front key ≡ None
  value_of-last front value back ascending =
      ap (λ rows. value_of cmp rows key) (sym (append-nil front)) ∙ value_of-append_below cmp front [] key (keys_below front value back ascending)
