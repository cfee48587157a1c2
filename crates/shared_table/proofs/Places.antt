-- The rows from a place on, piece by piece.
use Rattle.std.proofs.Common.{◌≡◌, ℕ, suc, ◌+◌, ◌<◌, ◌≤◌, List, ◌++◌, length, take, drop, sym, ap, ◌∙◌, arith, append_assoc, length-append, length-drop, inl}
use Rattle.std.proofs.Common.{inr}
use Rattle.std.proofs.Math.Seq.{drop-append-add}
use Rattle.std.proofs.lemmas.Bool.{cases_lt}
use Rattle.std.proofs.lemmas.List.{drop-append-le}
use Rattle.row_spec.specs.Blocks.{joined, block_at, rows_before}
use Rattle.row_spec.proofs.Joined.{joined_parted, rows_before-length}
use Rattle.shared_table.specs.Pieces.{IsRunAt}

module _ {X : Type 0} where
  -- a run ends with the rows at the latest
  run_within : (rows : List X) (place : ℕ) (run : List X) → IsRunAt rows place run → place + length run ≤ length rows
  run_within rows place run runs = omega (
    arith,
    runs.some,
    ap length runs.from,
    length-drop place rows,
    length-append run (drop (place + length run) rows),
    length-drop (place + length run) rows,
  )

  module _ (blocks : List (List X)) (block : ℕ) (lt : block < length blocks) where
    -- the rows from a place of a block on
    from_block : (n k : ℕ) → n ≡ rows_before blocks block + k → k ≤ length (block_at blocks block)
        → drop n (joined blocks) ≡ drop k (block_at blocks block) ++ joined (drop (suc block) blocks)
    from_block n k is le =
        ap (drop n) (joined_parted blocks block lt)
        ∙ ap (λ m. drop m (joined (take block blocks) ++ (block_at blocks block ++ joined (drop (suc block) blocks)))) is
        ∙ drop-append-add (joined (take block blocks)) (block_at blocks block ++ joined (drop (suc block) blocks)) k
        ∙ drop-append-le k (block_at blocks block) (joined (drop (suc block) blocks)) le

    -- a run of a block is one of all rows
    pub run_in_block : (left place : ℕ) (run : List X) → rows_before blocks block + left ≡ place → IsRunAt (block_at blocks block) left run
        → IsRunAt (joined blocks) place run
    run_in_block left place run is runs =
        let within = run_within (block_at blocks block) left run runs in
        record {
          some = runs.some;
          from =
              from_block place left (sym is) (omega (arith, within))
              ∙ ap (λ rows. rows ++ joined (drop (suc block) blocks)) runs.from
              ∙ append_assoc run (drop (left + length run) (block_at blocks block)) (joined (drop (suc block) blocks))
              ∙ ap (λ rows. run ++ rows) (sym (from_block (place + length run) (left + length run) (omega (arith, is)) within));
        }

  -- some block has a row that is not among those before a place
  pub block_left : (blocks : List (List X)) (block left place : ℕ) → rows_before blocks block + left ≡ place → place < length (joined blocks)
      → block < length blocks
  block_left blocks block left place is lt = elim (cases_lt block (length blocks)) [
    | inl less ↦ less
    | inr more ↦ absurd (omega (arith, rows_before-length blocks block more, is, lt))
  ]
