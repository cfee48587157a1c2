-- Parts of a table one after another: where a key goes, and what a change of one part makes of all rows.
use Rattle.std.proofs.Common.{◌≡◌, ℕ, zero, suc, ◌+◌, ◌-◌, ◌<◌, ◌≤◌, List, [], ◌∷◌, ◌++◌, length, get_or, set, insert, remove, take, drop, refl, sym, ap}
use Rattle.std.proofs.Common.{subst, ◌∙◌, arith, Ordering, Less, Equal, Greater, is_gt, is_le, Bool, true, false, cond, All, append_assoc, take-append-drop}
use Rattle.std.proofs.Common.{length-take, length-append, is_lt}
use Rattle.std.specs.Cmp.{IsTotalOrder}
use Rattle.std.specs.Ordering.{ordering_reverse}
use Rattle.std.specs.List.{HoldsAt}
use Rattle.std.proofs.Common.{take_all, length-drop, add-one, Some, None, is_some, slice_get, true≢false}
use Rattle.std.proofs.lemmas.List.{get_or-map, get_or-take, length-map, map-set, map-append, take-map, drop-map}
use Rattle.std.proofs.lemmas.List.Elements.{All-nil, All-cons, All-set, All-append, All-take, All-drop}
use Rattle.row_spec.specs.Rows.{EachKeyIs, begins_by, with_row, without_key, value_of}
use Rattle.row_spec.specs.Blocks.{joined, block_at, rows_before, replaced, IsBlockFor}
use Rattle.row_spec.proofs.Ascending.{IsAscending-empty, IsAscending-left, IsAscending-right, IsAscending-with_row, IsAscending-without_key}
use Rattle.row_spec.proofs.Changes.{length-with_row, length-without_key}
use Rattle.row_spec.proofs.Found.{below_block, above_block}
use Rattle.row_spec.proofs.Joined.{joined-append, joined_parted, rows_before-suc, length-joined-set, length-joined-remove}
use Rattle.row_spec.proofs.Runs.{replaced_some, replaced_none}
use Rattle.row_spec.proofs.Whole.{value_of-block, with_row-block, without_key-block}
use Rattle.shared_table.specs.Pieces.{BeginsWith, AreHalves, AreParts, blocks_of, rows_of}

-- an insert behind a place, and a write at it
pub set_insert : {X : Type 0} (xs : List X) (i : ℕ) (x y : X) → i < length xs → set (insert xs (suc i) y) i x ≡ take i xs ++ x ∷ y ∷ drop (suc i) xs
set_insert [] i x y lt = absurd (omega arith)
set_insert (z ∷ xs) zero x y lt = refl
set_insert (z ∷ xs) (suc i) x y lt = ap (λ rest. z ∷ rest) (set_insert xs i x y (omega arith))

-- the rest from a place on
pub rest_from : {X : Type 0} (xs : List X) (k : ℕ) → take (length xs - k) (drop k xs) ≡ drop k xs
rest_from xs k = take_all (length xs - k) (drop k xs) (omega (arith, length-drop k xs))

-- an element behind the first
from_second : {X : Type 0} (xs : List X) (i : ℕ) (x : X) → i < length (take (length xs - 1) (drop 1 xs))
    → x ≡ get_or (take (length xs - 1) (drop 1 xs)) i x → (suc i < length xs) × (x ≡ get_or xs (suc i) x)
from_second [] i x lt is = absurd (omega arith)
from_second (y ∷ xs) i x lt is = (omega (arith, lt, ap length (rest_from (y ∷ xs) 1)), is ∙ ap (λ rest. get_or rest i x) (rest_from (y ∷ xs) 1))

pub behind_first : {X : Type 0} (xs ys : List X) (i : ℕ) (x : X) → ys ≡ xs → i < length (take (length ys - 1) (drop 1 ys))
    → x ≡ get_or (take (length ys - 1) (drop 1 ys)) i x → (suc i < length xs) × (x ≡ get_or xs (suc i) x)
behind_first xs ys i x same lt is = subst (λ zs. (suc i < length zs) × (x ≡ get_or zs (suc i) x)) same (from_second ys i x lt is)

one_at_most : (b : Bool) (n m : ℕ) → m ≡ n + cond b 0 1 → m ≤ n + 1
one_at_most true n m is = omega arith
one_at_most false n m is = omega arith

is_le_of : (answer : Ordering) → is_gt answer ≡ false → is_le answer ≡ true
is_le_of Less is = refl
is_le_of Equal is = refl
is_le_of Greater is = absurd (true≢false is)

not_le : (answer : Ordering) → is_gt answer ≡ true → is_le answer ≡ false
not_le Less is = absurd (true≢false (sym is))
not_le Equal is = absurd (true≢false (sym is))
not_le Greater is = refl

turned : (answer : Ordering) → is_gt (ordering_reverse answer) ≡ is_lt answer
turned Less = refl
turned Equal = refl
turned Greater = refl

-- a start is above a key where the key is below it
above_key : {K : Type 0} (cmp : K → K → Ordering) → IsTotalOrder cmp → (start key : K) → is_gt (cmp start key) ≡ is_lt (cmp key start)
above_key cmp total start key = ap is_gt (total.antisymm start key) ∙ turned (cmp key start)

module _ {K V : Type 0} where
  -- a part begins with its key
  abbrev pub Begins : K × List (K × V) → Type 0
  Begins part = BeginsWith part.0 part.1

  pub begins-some : (key : K) (rows : List (K × V)) → BeginsWith key rows → 0 < length rows
  begins-some key [] begins = absurd begins
  begins-some key (row ∷ rows) begins = omega arith

  pub begins-append : (key : K) (front back : List (K × V)) → BeginsWith key front → BeginsWith key (front ++ back)
  begins-append key [] back begins = absurd begins
  begins-append key (row ∷ front) back begins = begins

  pub begins-left : (key : K) (front back : List (K × V)) → 0 < length front → BeginsWith key (front ++ back) → BeginsWith key front
  begins-left key [] back some begins = absurd (omega arith)
  begins-left key (row ∷ front) back some begins = begins

  begins-drop : (rows : List (K × V)) (k : ℕ) (d : K × V) → k < length rows → BeginsWith (get_or rows k d).0 (drop k rows)
  begins-drop [] k d lt = absurd (omega arith)
  begins-drop (row ∷ rows) zero d lt = refl
  begins-drop (row ∷ rows) (suc k) d lt = begins-drop rows k d (omega arith)

  -- a run in two parts
  pub run_halves : (rows : List (K × V)) (k : ℕ) (d : K × V) → 0 < k → k < length rows → AreHalves rows (take k rows) (get_or rows k d).0 (drop k rows)
  run_halves rows k d some lt = record { some = omega (arith, length-take k rows); begins = begins-drop rows k d lt; all = take-append-drop k rows }

  begins_by-start : (cmp : K → K → Ordering) (start key : K) (rows : List (K × V)) → BeginsWith start rows → begins_by cmp rows key ≡ is_le (cmp start key)
  begins_by-start cmp start key [] begins = absurd begins
  begins_by-start cmp start key (row ∷ rows) begins = ap (λ k. is_le (cmp k key)) begins

  pub block_at-parts : (parts : List (K × List (K × V))) (i : ℕ) (d : K × List (K × V)) → i < length parts → block_at (blocks_of parts) i ≡ (get_or parts i d).1
  block_at-parts parts i d lt = get_or-map (λ part. part.1) parts i d [] lt

  pub rows_of-append : (xs ys : List (K × List (K × V))) → rows_of (xs ++ ys) ≡ rows_of xs ++ rows_of ys
  rows_of-append xs ys = ap joined (map-append (λ part. part.1) xs ys) ∙ joined-append (blocks_of xs) (blocks_of ys)

  some_row : (parts : List (K × List (K × V))) → All Begins parts → (k : ℕ) → k < length (blocks_of parts) → 0 < length (block_at (blocks_of parts) k)
  some_row [] begin k lt = absurd (omega arith)
  some_row (part ∷ parts) begin k lt =
      let in_parts : k < length (part ∷ parts) = omega (arith, length-map (part ∷ parts) (λ p. p.1)) in
      rw (block_at-parts (part ∷ parts) k part in_parts) (begins-some _ _ (begin k part in_parts))

  pub length-blocks : (parts : List (K × List (K × V))) → length (blocks_of parts) ≡ length parts
  length-blocks parts = length-map parts (λ part. part.1)

  -- what the part at a place has
  pub part_rows : (parts : List (K × List (K × V))) (k : ℕ) (part : K × List (K × V)) → k < length parts → part ≡ get_or parts k part
      → part.1 ≡ block_at (blocks_of parts) k
  part_rows parts k part lt is = ap (λ p. p.1) is ∙ sym (block_at-parts parts k part lt)

  module _ (cmp : K → K → Ordering) (total : IsTotalOrder cmp) (key : K) where
    begins_at : (parts : List (K × List (K × V))) (k : ℕ) (d : K × List (K × V)) (answer : Bool) → All Begins parts → k < length parts
        → is_le (cmp (get_or parts k d).0 key) ≡ answer → begins_by cmp (block_at (blocks_of parts) k) key ≡ answer
    begins_at parts k d answer begin lt is = ap (λ rows. begins_by cmp rows key) (block_at-parts parts k d lt)
        ∙ begins_by-start cmp (get_or parts k d).0 key (get_or parts k d).1 (begin k d lt) ∙ is

    begins_in : (parts : List (K × List (K × V))) (k : ℕ) (d : K × List (K × V)) (answer : Bool) → AreParts cmp parts → k < length parts
        → is_le (cmp (get_or parts k d).0 key) ≡ answer → begins_by cmp (block_at (blocks_of parts) k) key ≡ answer
    begins_in parts k d answer are lt is = begins_at parts k d answer are.begin lt is

    -- the part before the first behind the front one that starts above the key has the key or a place for it
    pub place_counted : (parts : List (K × List (K × V))) (i : ℕ) → AreParts cmp parts → i < length parts
        → (0 < i → HoldsAt (λ part. is_lt (cmp key part.0) ≡ false) parts i)
        → (suc i < length parts → HoldsAt (λ part. is_lt (cmp key part.0) ≡ true) parts (suc i)) → IsBlockFor cmp (blocks_of parts) key i
    place_counted [] i are lt from to = absurd (omega arith)
    place_counted (part ∷ parts) i are lt from to =
        let in_blocks : i < length (blocks_of (part ∷ parts)) = omega (arith, lt, length-blocks (part ∷ parts)) in
        record {
          in_range = in_blocks;
          below = before i in_blocks from;
          above = above_block cmp total key (blocks_of (part ∷ parts)) (suc i) (some_row (part ∷ parts) are.begin) are.ascending (λ next.
              let in_parts : suc i < length (part ∷ parts) = omega (arith, next, length-blocks (part ∷ parts)) in
              begins_in (part ∷ parts) (suc i) part false are in_parts (not_le _ (above_key cmp total _ key ∙ to in_parts part)));
        }
      where
        before : (k : ℕ) → k < length (blocks_of (part ∷ parts)) → (0 < k → HoldsAt (λ p. is_lt (cmp key p.0) ≡ false) (part ∷ parts) k)
            → EachKeyIs cmp Less key (joined (take k (blocks_of (part ∷ parts))))
        before zero in_blocks starts = tt
        before (suc k) in_blocks starts = below_block cmp total key (blocks_of (part ∷ parts)) (suc k) in_blocks are.ascending
            (begins_in (part ∷ parts) (suc k) part true are (omega (arith, in_blocks, length-blocks (part ∷ parts)))
            (is_le_of _ (above_key cmp total _ key ∙ starts (omega arith) part)))

  -- ---- a change of one part

  blocks_of-remove : (parts : List (K × List (K × V))) (place : ℕ) → blocks_of (remove parts place) ≡ remove (blocks_of parts) place
  blocks_of-remove parts place = map-append (λ part. part.1) (take place parts) (drop (suc place) parts)
      ∙ rw (take-map (λ (part : K × List (K × V)). part.1) place parts, drop-map (λ (part : K × List (K × V)). part.1) (suc place) parts) refl

  module _ (cmp : K → K → Ordering) (parts : List (K × List (K × V))) (key : K) (place : ℕ) (found : IsBlockFor cmp (blocks_of parts) key place)
      (start : K) (rows : List (K × V)) where
    pub value_in : rows ≡ block_at (blocks_of parts) place → value_of cmp rows key ≡ value_of cmp (rows_of parts) key
    value_in is = ap (λ r. value_of cmp r key) is ∙ sym (value_of-block cmp (blocks_of parts) key place found)

    pub put_rows : (value : V) → rows ≡ with_row cmp (block_at (blocks_of parts) place) key value
        → rows_of (set parts place (start, rows)) ≡ with_row cmp (rows_of parts) key value
    put_rows value is = ap joined (map-set (λ part. part.1) parts place (start, rows)) ∙ ap (λ r. joined (set (blocks_of parts) place r)) is
        ∙ with_row-block cmp (blocks_of parts) key place found value

    pub put_parts : (value : V) → IsTotalOrder cmp → AreParts cmp parts → BeginsWith start rows
        → rows ≡ with_row cmp (block_at (blocks_of parts) place) key value → AreParts cmp (set parts place (start, rows))
    put_parts value total are begins is = record {
      ascending = rw (put_rows value is) (IsAscending-with_row cmp total (rows_of parts) key value are.ascending);
      begin = All-set Begins parts place (start, rows) begins are.begin;
    }

    -- a put adds one row at most
    pub put_fits : (value : V) → IsTotalOrder cmp → AreParts cmp parts → rows ≡ with_row cmp (block_at (blocks_of parts) place) key value
        → length (rows_of (set parts place (start, rows))) ≤ length (rows_of parts) + 1
    put_fits value total are is = one_at_most (is_some (value_of cmp (rows_of parts) key)) (length (rows_of parts))
        (length (rows_of (set parts place (start, rows)))) (ap length (put_rows value is) ∙ length-with_row cmp total
        (rows_of parts) key value are.ascending)

    pub take_rows : BeginsWith start rows → rows ≡ without_key cmp (block_at (blocks_of parts) place) key
        → rows_of (set parts place (start, rows)) ≡ without_key cmp (rows_of parts) key
    take_rows begins is =
        ap joined (map-set (λ part. part.1) parts place (start, rows))
        ∙ ap joined (sym (replaced_some (blocks_of parts) place rows (begins-some start rows begins)))
        ∙ ap (λ r. joined (replaced (blocks_of parts) place r)) is ∙ without_key-block cmp (blocks_of parts) key place found

    pub take_parts : AreParts cmp parts → BeginsWith start rows → rows ≡ without_key cmp (block_at (blocks_of parts) place) key
        → AreParts cmp (set parts place (start, rows))
    take_parts are begins is = record {
      ascending = rw (take_rows begins is) (IsAscending-without_key cmp (rows_of parts) key are.ascending);
      begin = All-set Begins parts place (start, rows) begins are.begin;
    }

    pub gone_rows : rows ≡ [] → rows ≡ without_key cmp (block_at (blocks_of parts) place) key
        → rows_of (remove parts place) ≡ without_key cmp (rows_of parts) key
    gone_rows none is =
        ap joined (blocks_of-remove parts place) ∙ ap joined (sym (replaced_none (blocks_of parts) place rows (ap length none)))
        ∙ ap (λ r. joined (replaced (blocks_of parts) place r)) is ∙ without_key-block cmp (blocks_of parts) key place found

    pub gone_parts : AreParts cmp parts → rows ≡ [] → rows ≡ without_key cmp (block_at (blocks_of parts) place) key → AreParts cmp (remove parts place)
    gone_parts are none is = record {
      ascending = rw (gone_rows none is) (IsAscending-without_key cmp (rows_of parts) key are.ascending);
      begin = All-append Begins (take place parts) (drop (suc place) parts) (All-take Begins place parts are.begin)
          (All-drop Begins (suc place) parts are.begin);
    }

  -- a part has no more rows than there are
  pub length-block : (parts : List (K × List (K × V))) (place : ℕ) → place < length (blocks_of parts)
      → length (block_at (blocks_of parts) place) ≤ length (rows_of parts)
  length-block parts place lt = omega (arith, length-joined-remove (blocks_of parts) place lt)

  -- the rows are counted anew after a change of one part
  pub length-changed : (parts : List (K × List (K × V))) (place : ℕ) (part : K × List (K × V)) → place < length (blocks_of parts)
      → length (rows_of (set parts place part)) + length (block_at (blocks_of parts) place) ≡ length (rows_of parts) + length part.1
  length-changed parts place part lt = rw (map-set (λ (part : K × List (K × V)). part.1) parts place part) (length-joined-set (blocks_of parts) place part.1 lt)

  pub length-gone : (parts : List (K × List (K × V))) (place : ℕ) → place < length (blocks_of parts)
      → length (rows_of (remove parts place)) + length (block_at (blocks_of parts) place) ≡ length (rows_of parts)
  length-gone parts place lt = rw (blocks_of-remove parts place) (length-joined-remove (blocks_of parts) place lt)

  -- ---- a part in two

  module _ (cmp : K → K → Ordering) (parts : List (K × List (K × V))) (place : ℕ) (d : K × List (K × V)) (lt : place < length parts)
      (lower : List (K × V)) (start : K) (upper : List (K × V)) (halves : AreHalves (get_or parts place d).1 lower start upper) where
    abbrev cut_list : List (K × List (K × V))
    cut_list = take place parts ++ ((get_or parts place d).0, lower) ∷ (start, upper) ∷ drop (suc place) parts

    pub cut_rows : rows_of cut_list ≡ rows_of parts
    cut_rows =
        let in_blocks : place < length (blocks_of parts) = omega (arith, length-map parts (λ p. p.1)) in
        rows_of-append (take place parts) (((get_or parts place d).0, lower) ∷ (start, upper) ∷ drop (suc place) parts)
        ∙ ap (λ rest. rows_of (take place parts) ++ rest) (sym (append_assoc lower upper (rows_of (drop (suc place) parts)))
        ∙ ap (λ r. r ++ rows_of (drop (suc place) parts)) (halves.all ∙ sym (block_at-parts parts place d lt)))
        ∙ rw (← take-map (λ (part : K × List (K × V)). part.1) place parts, ← drop-map (λ (part : K × List (K × V)). part.1) (suc place) parts)
        (sym (joined_parted (blocks_of parts) place in_blocks))

    pub cut_parts : AreParts cmp parts → AreParts cmp cut_list
    cut_parts are = record {
      ascending = rw cut_rows are.ascending;
      begin = All-append Begins (take place parts) (((get_or parts place d).0, lower) ∷ (start, upper) ∷ drop (suc place) parts)
          (All-take Begins place parts are.begin)
          (All-cons Begins ((get_or parts place d).0, lower) ((start, upper) ∷ drop (suc place) parts)
          (begins-left (get_or parts place d).0 lower upper halves.some (rw halves.all (are.begin place d lt)))
          (All-cons Begins (start, upper) (drop (suc place) parts) halves.begins (All-drop Begins (suc place) parts are.begin)));
    }

  module _ (cmp : K → K → Ordering) (parts : List (K × List (K × V))) (place : ℕ) (part lower upper : K × List (K × V))
      (lt : place < length parts) (is : part ≡ get_or parts place part) (same : lower.0 ≡ part.0)
      (halves : AreHalves part.1 lower.1 upper.0 upper.1) where
    in_two : AreHalves (get_or parts place part).1 lower.1 upper.0 upper.1
    in_two = subst (λ (p : K × List (K × V)). AreHalves p.1 lower.1 upper.0 upper.1) is halves

    cut_is : set (insert parts (place + 1) upper) place lower ≡ take place parts ++ ((get_or parts place part).0, lower.1) ∷
        (upper.0, upper.1) ∷ drop (suc place) parts
    cut_is = rw (add-one place) (set_insert parts place lower upper lt)
        ∙ ap (λ k. take place parts ++ (k, lower.1) ∷ upper ∷ drop (suc place) parts) (same ∙ ap (λ p. p.0) is)

    pub cut_in_two_rows : rows_of (set (insert parts (place + 1) upper) place lower) ≡ rows_of parts
    cut_in_two_rows = ap rows_of cut_is ∙ cut_rows cmp parts place part lt lower.1 upper.0 upper.1 in_two

    pub cut_in_two_parts : AreParts cmp parts → AreParts cmp (set (insert parts (place + 1) upper) place lower)
    cut_in_two_parts are = subst (AreParts cmp) (sym cut_is) (cut_parts cmp parts place part lt lower.1 upper.0 upper.1 in_two are)

  -- ---- a layer in two

  pub rows_begin : (parts : List (K × List (K × V))) (k : ℕ) (d : K × List (K × V)) → All Begins parts → k < length parts
      → BeginsWith (get_or parts k d).0 (rows_of (drop k parts))
  rows_begin [] k d begin lt = absurd (omega arith)
  rows_begin (part ∷ parts) zero d begin lt = begins-append part.0 part.1 (rows_of parts) (begin 0 part (omega arith))
  rows_begin (part ∷ parts) (suc k) d begin lt = rows_begin parts k d (λ i e below. begin (suc i) e (omega arith)) (omega arith)

  pub rows_in_two : (parts : List (K × List (K × V))) (k : ℕ) → rows_of (take k parts) ++ rows_of (drop k parts) ≡ rows_of parts
  rows_in_two parts k = sym (rows_of-append (take k parts) (drop k parts)) ∙ ap rows_of (take-append-drop k parts)

  module _ (cmp : K → K → Ordering) (parts : List (K × List (K × V))) (k : ℕ) (are : AreParts cmp parts) where
    pub AreParts-take : AreParts cmp (take k parts)
    AreParts-take = record {
      ascending = IsAscending-left cmp (rows_of (take k parts)) (rows_of (drop k parts)) (rw (rows_in_two parts k) are.ascending);
      begin = All-take Begins k parts are.begin;
    }

    pub AreParts-drop : AreParts cmp (drop k parts)
    AreParts-drop = record {
      ascending = IsAscending-right cmp (rows_of (take k parts)) (rows_of (drop k parts)) (rw (rows_in_two parts k) are.ascending);
      begin = All-drop Begins k parts are.begin;
    }

  pub layer_halves : (cmp : K → K → Ordering) (parts : List (K × List (K × V))) (k : ℕ) (d : K × List (K × V)) → AreParts cmp parts
      → 0 < k → k < length parts → AreHalves (rows_of parts) (rows_of (take k parts)) (get_or parts k d).0 (rows_of (drop k parts))
  layer_halves cmp parts k d are some lt = record {
    some = first_rows parts k are.begin some (omega arith);
    begins = rows_begin parts k d are.begin lt;
    all = rows_in_two parts k;
  }
    where
      first_rows : (ps : List (K × List (K × V))) (k : ℕ) → All Begins ps → 0 < k → 0 < length ps → 0 < length (rows_of (take k ps))
      first_rows [] k begin some_k some = absurd (omega arith)
      first_rows (p ∷ ps) zero begin some_k some = absurd (omega arith)
      first_rows (p ∷ ps) (suc k) begin some_k some = begins-some p.0 (p.1 ++ rows_of (take k ps))
          (begins-append p.0 p.1 (rows_of (take k ps)) (begin 0 p (omega arith)))

  pub no_parts : (cmp : K → K → Ordering) → AreParts {K = K} {V = V} cmp []
  no_parts cmp = record { ascending = IsAscending-empty V cmp; begin = All-nil Begins }

  pub one_part : (cmp : K → K → Ordering) → IsTotalOrder cmp → (key : K) (value : V) (rows : List (K × V)) → rows ≡ (key, value) ∷ []
      → AreParts cmp ((key, rows) ∷ [])
  one_part cmp total key value rows is = record {
    ascending = rw is (IsAscending-with_row cmp total [] key value (IsAscending-empty V cmp));
    begin = All-cons Begins (key, rows) [] (rw is refl) (All-nil Begins);
  }

  -- the first part's key is the first of all
  pub first_begins : (cmp : K → K → Ordering) (parts : List (K × List (K × V))) (part : K × List (K × V)) → AreParts cmp parts
      → Some part ≡ slice_get parts 0 → BeginsWith part.0 (rows_of parts)
  first_begins cmp [] part are is = absurd (let n = ap is_some is in true≢false n)
  first_begins cmp (first ∷ parts) part are is =
      let same : part ≡ first = ap (λ o. elim o as (λ _. K × List (K × V)) [ None ↦ part | Some x ↦ x ]) is in
      rw same (begins-append first.0 first.1 (rows_of parts) (are.begin 0 first (omega arith)))

  -- the rows before a place are those of the parts before it
  pub rows_before-parts : (parts : List (K × List (K × V))) (k : ℕ) → rows_before (blocks_of parts) k ≡ length (rows_of (take k parts))
  rows_before-parts parts k = ap (λ blocks. length (joined blocks)) (take-map (λ (part : K × List (K × V)). part.1) k parts)

  -- the rows of one more part are counted
  pub count_next : (parts items : List (K × List (K × V))) (place i count : ℕ) (part : K × List (K × V)) → items ≡ parts
      → i < length (take place items) → part ≡ get_or (take place items) i part → count ≡ rows_before (blocks_of parts) i
      → count + length part.1 ≡ rows_before (blocks_of parts) (i + 1)
  count_next parts items place i count part same lt is counted =
      let within : i < length (take place parts) = subst (λ (xs : List (K × List (K × V))). i < length (take place xs)) same lt in
      let here : part ≡ get_or (take place parts) i part = subst (λ (xs : List (K × List (K × V))). part ≡ get_or (take place xs) i part) same is in
      let in_place : i < place = omega (arith, length-take place parts, within) in
      let in_parts : i < length parts = omega (arith, length-take place parts, within) in
      let rows = part_rows parts i part in_parts (here ∙ get_or-take place parts i part in_place) in
      let next = rows_before-suc (blocks_of parts) i (omega (arith, in_parts, length-blocks parts)) in
      rw (add-one i) (omega (arith, next, counted, ap length rows))

  pub length-drop_parts : (parts : List (K × List (K × V))) (k : ℕ) → length (rows_of (take k parts)) + length (rows_of (drop k parts)) ≡ length (rows_of parts)
  length-drop_parts parts k = sym (length-append (rows_of (take k parts)) (rows_of (drop k parts))) ∙ ap length (rows_in_two parts k)

  pub length-less : (cmp : K → K → Ordering) → IsTotalOrder cmp → (rows : List (K × V)) (key : K) → length (without_key cmp rows key) ≤ length rows
  length-less cmp total rows key = omega (arith, length-without_key cmp total rows key)
