-- The starts of the blocks after each change of the blocks.
use Rattle.std.proofs.Common.{◌≡◌, ℕ, zero, suc, ◌+◌, ◌-◌, ◌^◌, ◌<◌, ◌≤◌, List, [], ◌∷◌, length, set, insert, remove, get_or, refl, sym, ap, subst, ◌∙◌}
use Rattle.std.proofs.Common.{arith, inl, inr, length-set, add-one, true, false, leb, leb-true, leb-false}
use Rattle.std.specs.List.Sorted.{IsPartitionedBy, IsPartitionPoint}
use Rattle.std.proofs.lemmas.List.Sorted.{IsPartitionedBy-leb, IsNonDecreasingBy-from_default}
use Rattle.std.specs.List.{SameBelow, ShiftedDown}
use Rattle.std.proofs.lemmas.Bool.{cases_lt}
use Rattle.std.proofs.lemmas.List.Edits.{length-insert, get_or-insert_below, get_or-insert_at, get_or-insert_above, length-remove}
use Rattle.row_spec.specs.Blocks.{joined, block_at, rows_before, halved, AreStarts, IsBlockAt}
use Rattle.row_spec.proofs.Joined.{rows_before-set_low, rows_before-set_high, rows_before-remove_low, rows_before-remove_high, rows_before-halved_low}
use Rattle.row_spec.proofs.Joined.{rows_before-halved_middle, rows_before-halved_high, length-joined-set, length-joined-remove, length-halved, joined-halved}
use Rattle.row_spec.proofs.Joined.{rows_before-mono, rows_before-suc, rows_before-length}

module _ {X : Type 0} (blocks : List (List X)) (starts new : List ℕ) (i : ℕ) (old : AreStarts blocks starts) (in_range : i < length blocks) where
  -- a block that has as many rows as before leaves the starts
  pub starts_same : (rows : List X) → length rows ≡ length (block_at blocks i) → AreStarts (set blocks i rows) starts
  starts_same rows same = record {
    count = omega (arith, old.count, length-set blocks i rows);
    start = λ k lt. elim (cases_lt i k) [
      | inl high ↦ omega (arith, old.start k (omega (arith, length-set blocks i rows)), rows_before-set_high blocks i k rows high in_range, same)
      | inr low ↦ omega (arith, old.start k (omega (arith, length-set blocks i rows)), rows_before-set_low blocks i k rows low)
    ];
    fits = omega (arith, old.fits, length-joined-set blocks i rows in_range, same);
  }

  -- another number of rows in a block moves the starts behind it
  starts_moved : (rows : List X) → length (joined blocks) + length rows < 2 ^ 64 + length (block_at blocks i) → length new ≡ length starts
      → ((k : ℕ) → k < i + 1 → get_or new k 0 ≡ get_or starts k 0)
      → ((k : ℕ) → i + 1 ≤ k → k < length starts → get_or new k 0 + length (block_at blocks i) ≡ get_or starts k 0 + length rows)
      → AreStarts (set blocks i rows) new
  starts_moved rows fits len before moved = record {
    count = omega (arith, old.count, length-set blocks i rows, len);
    start = λ k lt. elim (cases_lt i k) [
      | inl high ↦
          let there = moved k (omega arith) (omega (arith, old.count, length-set blocks i rows)) in
          omega (arith, old.start k (omega (arith, length-set blocks i rows)), rows_before-set_high blocks i k rows high in_range, there)
      | inr low ↦ omega (arith, old.start k (omega (arith, length-set blocks i rows)), rows_before-set_low blocks i k rows low, before k (omega arith))
    ];
    fits = omega (arith, fits, length-joined-set blocks i rows in_range);
  }

  -- one more row in a block raises them
  pub starts_raised : (rows : List X) → length rows ≡ length (block_at blocks i) + 1 → length (joined blocks) + 1 < 2 ^ 64
      → length new ≡ length starts → ((k : ℕ) → k < i + 1 → get_or new k 0 ≡ get_or starts k 0)
      → ((k : ℕ) → i + 1 ≤ k → k < length starts → get_or new k 0 ≡ get_or starts k 0 + 1) → AreStarts (set blocks i rows) new
  starts_raised rows grown fits len before raised =
      starts_moved rows (omega (arith, fits, grown)) len before (λ k from lt. omega (arith, raised k from lt, grown))

  -- one row less lowers them
  pub starts_lowered : (rows : List X) → length rows + 1 ≡ length (block_at blocks i) → length new ≡ length starts
      → ((k : ℕ) → k < i + 1 → get_or new k 0 ≡ get_or starts k 0)
      → ((k : ℕ) → i + 1 ≤ k → k < length starts → get_or new k 0 + 1 ≡ get_or starts k 0) → AreStarts (set blocks i rows) new
  starts_lowered rows shrunk len before lowered =
      starts_moved rows (let fits = old.fits in omega (arith, fits, shrunk)) len before (λ k from lt. omega (arith, lowered k from lt, shrunk))

  -- a block without rows goes with its start
  pub starts_removed : length (block_at blocks i) ≡ 0 → length new + 1 ≡ length starts → SameBelow starts new i → ShiftedDown starts new i
      → AreStarts (remove blocks i) new
  starts_removed none len before shifted = record {
    count = omega (arith, old.count, len, length-remove blocks i in_range);
    start = λ k lt. elim (cases_lt k i) [
      | inl low ↦ before k 0 low ∙ old.start k (omega (arith, length-remove blocks i in_range)) ∙ sym (rows_before-remove_low blocks i k (omega arith))
      | inr high ↦ omega (
        arith,
        shifted k 0 high,
        old.start (k + 1) (omega (arith, length-remove blocks i in_range)),
        rows_before-remove_high blocks i k high in_range,
        none,
        ap (rows_before blocks) (add-one k),
      )
    ];
    fits = omega (arith, old.fits, length-joined-remove blocks i in_range);
  }

  -- a block that is cut in two gives a start to its upper half
  pub starts_halved : length (block_at blocks i) ≡ 256 → AreStarts (halved blocks i) (insert starts (i + 1) (get_or starts i 0 + 128))
  starts_halved full = record {
    count = omega (arith, old.count, length-halved blocks i in_range, length-insert starts (i + 1) (get_or starts i 0 + 128) (omega (arith, old.count)));
    start = λ k lt. elim (cases_lt k (i + 1)) [
      | inl low ↦ get_or-insert_below starts (i + 1) (get_or starts i 0 + 128) 0 k low (omega (arith, old.count)) ∙ old.start k (omega arith)
          ∙ sym (rows_before-halved_low blocks i k (omega arith) in_range)
      | inr high ↦ upper k (omega (arith, length-halved blocks i in_range)) high
    ];
    fits = rw (joined-halved blocks i in_range) old.fits;
  }
    where
      upper : (k : ℕ) → k < length blocks + 1 → i + 1 ≤ k → get_or (insert starts (i + 1) (get_or starts i 0 + 128)) k 0 ≡ rows_before (halved blocks i) k
      upper zero lt high = absurd (omega arith)
      upper (suc j) lt high = elim (cases_lt i j) [
        | inl above ↦ subst (λ place. get_or (insert starts (i + 1) (get_or starts i 0 + 128)) place 0 ≡ get_or starts j 0)
            (add-one j) (get_or-insert_above starts (i + 1) (get_or starts i 0 + 128) 0 j (omega arith) (omega (arith, old.count)))
            ∙ old.start j (omega arith) ∙ sym (rows_before-halved_high blocks i j above in_range)
        | inr below ↦
            let same : i ≡ j = omega arith in
            subst (λ place. get_or (insert starts (i + 1) (get_or starts i 0 + 128)) (suc place) 0 ≡ rows_before (halved blocks i) (suc place)) same (
            subst (λ place. get_or (insert starts (i + 1) (get_or starts i 0 + 128)) place 0 ≡ get_or starts i 0 + 128) (add-one i)
            (get_or-insert_at starts (i + 1) (get_or starts i 0 + 128) 0 (omega (arith, old.count)))
            ∙ ap (λ n. n + 128) (old.start i in_range) ∙ sym (rows_before-halved_middle blocks i in_range (omega (arith, full))))
      ]

-- the start of the first block
pub starts_first : {X : Type 0} (row : X) → AreStarts ((row ∷ []) ∷ []) (0 ∷ [])
starts_first row = record { count = refl; start = first row; fits = omega arith }
  where
    first : {X : Type 0} (row : X) (place : ℕ) → place < 1 → get_or (0 ∷ []) place 0 ≡ rows_before ((row ∷ []) ∷ []) place
    first row zero lt = refl
    first row (suc place) lt = absurd (omega arith)

module _ {X : Type 0} (blocks : List (List X)) (starts : List ℕ) (are : AreStarts blocks starts) (place : ℕ) where
  pub starts_parted : IsPartitionedBy (λ start. leb start place) starts
  starts_parted = IsPartitionedBy-leb (λ (start : ℕ). start) starts place (IsNonDecreasingBy-from_default (λ (start : ℕ). start) starts 0 (λ i j le lt.
      omega (arith, are.start i (omega (arith, are.count)), are.start j (omega (arith, are.count)), rows_before-mono blocks i j le)))

  pub located : (n : ℕ) → place < length (joined blocks) → n ≤ length starts → IsPartitionPoint (λ start. leb start place ≡ true)
      (λ start. leb start place ≡ false) starts n → (1 ≤ n) × IsBlockAt blocks place (n - 1)
  located zero within le point = absurd (omega (arith, leb-false _ _ (point.1 0 0 (omega arith) some), are.start 0 (omega (arith, are.count, some))))
    where
      some : 0 < length starts
      some = some_block blocks within are.count
        where
          some_block : (blocks : List (List X)) → place < length (joined blocks) → length starts ≡ length blocks → 0 < length starts
          some_block [] within count = absurd (omega arith)
          some_block (block ∷ blocks) within count = omega arith
  located (suc m) within le point =
      let here : suc m - 1 ≡ m = omega arith in (
        omega arith,
        rw here (record {
          in_range = omega (arith, are.count);
          from = omega (arith, leb-true _ _ (point.0 m 0 (omega arith) (omega arith)), are.start m (omega (arith, are.count)));
          to = elim (cases_lt (suc m) (length starts)) [
            | inl more ↦ omega (
              arith,
              leb-false _ _ (point.1 (suc m) 0 (omega arith) more),
              are.start (suc m) (omega (arith, are.count)),
              rows_before-suc blocks m (omega (arith, are.count)),
            )
            | inr last ↦ omega (
              arith,
              rows_before-length blocks (suc m) (omega (arith, are.count)),
              rows_before-suc blocks m (omega (arith, are.count)),
              within,
            )
          ];
        }),
      )
