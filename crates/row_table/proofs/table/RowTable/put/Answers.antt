use Rattle.std.proofs.Common.{◌≡◌, ℕ, List, set, Ordering, arith, ap, sym, ◌∙◌, ◌<◌, length, is_some, []}
use Rattle.row_spec.specs.Rows.{value_of, with_row}
use Rattle.row_spec.specs.Blocks.{IsBlockFor, block_at, joined}
use Rattle.row_spec.proofs.Ascending.{IsAscending-with_row, IsAscending-empty}
use Rattle.row_spec.proofs.Changes.{length-with_row}
use Rattle.row_spec.proofs.Whole.{value_of-block, with_row-block}
use Rattle.row_spec.proofs.Runs.{none_holds, none_weaker, some_says, nil_from_length}
use Rattle.row_table.proofs.table.RowTable.put.Goals as goal

-- what the block for a key tells of rows that stand in the blocks, and what a put into it makes of them
module _ {K V : Type 0} (cmp : K → K → Ordering) {blocks : List (List (K × V))} {key : K} {place : ℕ} (found : IsBlockFor cmp blocks key place)
    {rows : List (K × V)} (same : joined blocks ≡ rows) where
  value_there : value_of cmp (block_at blocks place) key ≡ value_of cmp rows key
  value_there = sym (value_of-block cmp blocks key place found) ∙ ap (λ those. value_of cmp those key) same

  rows_then : (value : V) {now : List (List (K × V))} → now ≡ set blocks place (with_row cmp (block_at blocks place) key value)
      → joined now ≡ with_row cmp rows key value
  rows_then value is = ap joined is ∙ with_row-block cmp blocks key place found value ∙ ap (λ those. with_row cmp those key value) same

-- the first row
pub invariant_of-self : goal.invariant_of-self
invariant_of-self g c =
    let none = nil_from_length c.self.inside.blocks.blocks (sym c.len.ensures.len ∙ c.if-len-eq0.true) in
    let rows = ap joined none in
    let covered = rw none at c.self.invariant.3 in
    let reserved = rw rows at (rw (← c.self.view_is) at c.requires) in
    rw (c.put_first.ensures.blocks) (
      IsAscending-with_row g.K.Ord.cmp g.met.K.Ord.total [] c.args.key c.args.value (IsAscending-empty g.row.V.Denot g.K.Ord.cmp),
      omega (arith, c.self.invariant.1, ap length rows),
      omega (arith, reserved, c.self.invariant.2),
      λ fewer. omega (arith, fewer, covered (omega (arith, fewer, c.put_first.ensures.free)), c.put_first.ensures.free),
    )

pub put-old-requires-clause-room : goal.put-old-requires-clause-room
put-old-requires-clause-room g c = rw (value_there g.K.Ord.cmp c.room_for-place.ensures.block c.room_for-place.ensures.rows) c.room_for-place.ensures.room

pub put-old-requires-clause-fits : goal.put-old-requires-clause-fits
put-old-requires-clause-fits g c =
    rw (value_there g.K.Ord.cmp c.room_for-place.ensures.block c.room_for-place.ensures.rows, c.room_for-place.ensures.rows)
    (none_weaker (0 < c.self.inside.spare) _ _ (λ reserved. omega (arith, reserved, c.self.invariant.1, c.self.invariant.2))
    (rw (← c.self.view_is) at c.requires))

pub overflow_add-self-then-is_none : goal.overflow_add-self-then-is_none
overflow_add-self-then-is_none g c =
    let old = c.put-old.ensures.old ∙ value_there g.K.Ord.cmp c.room_for-place.ensures.block c.room_for-place.ensures.rows in
    let reserved = none_holds _ _ (ap is_some (sym old) ∙ c.if-is_none.ensures) (rw (← c.self.view_is) at c.requires) in
    omega (arith, reserved, c.self.invariant.2)

-- a new key
pub invariant_of-self-then-is_none : goal.invariant_of-self-then-is_none
invariant_of-self-then-is_none g c =
    let old = c.put-old.ensures.old ∙ value_there g.K.Ord.cmp c.room_for-place.ensures.block c.room_for-place.ensures.rows in
    let is = ap is_some (sym old) ∙ c.if-is_none.ensures in
    let reserved = none_holds _ _ is (rw (← c.self.view_is) at c.requires) in
    let all = rows_then g.K.Ord.cmp c.room_for-place.ensures.block c.room_for-place.ensures.rows c.args.value c.put-old.ensures.blocks in
    let len = rw is at (length-with_row g.K.Ord.cmp g.met.K.Ord.total (joined c.self.inside.blocks.blocks) c.args.key c.args.value c.self.invariant.0) in
    let claim = rw (c.if-is_none.ensures) at c.put-old.ensures.claim in (
      rw all (IsAscending-with_row g.K.Ord.cmp g.met.K.Ord.total _ _ _ c.self.invariant.0),
      omega (arith, len, ap length all, c.self.invariant.1),
      omega (arith, reserved, c.self.invariant.2),
      λ fewer. omega (
        arith,
        fewer,
        reserved,
        claim,
        c.room_for-place.ensures.claim,
        c.room_for-place.ensures.free,
        c.put-old.ensures.free,
        c.self.invariant.3 (omega (arith, fewer, reserved, c.room_for-place.ensures.free, c.put-old.ensures.free)),
      ),
    )

pub returns-then-is_none-clause-rows : goal.returns-then-is_none-clause-rows
returns-then-is_none-clause-rows g c =
    rw (← c.self.view_is) (rows_then g.K.Ord.cmp c.room_for-place.ensures.block c.room_for-place.ensures.rows c.args.value c.put-old.ensures.blocks)

pub returns-else-is_none-clause-rows : goal.returns-else-is_none-clause-rows
returns-else-is_none-clause-rows g c =
    rw (← c.self.view_is) (rows_then g.K.Ord.cmp c.room_for-place.ensures.block c.room_for-place.ensures.rows c.args.value c.put-old.ensures.blocks)

pub overflow_sub-self-then-is_none : goal.overflow_sub-self-then-is_none
overflow_sub-self-then-is_none g c =
    let old = c.put-old.ensures.old ∙ value_there g.K.Ord.cmp c.room_for-place.ensures.block c.room_for-place.ensures.rows in
    none_holds _ _ (ap is_some (sym old) ∙ c.if-is_none.ensures) (rw (← c.self.view_is) at c.requires)

-- a key that was there
pub invariant_of-self-else-is_none : goal.invariant_of-self-else-is_none
invariant_of-self-else-is_none g c =
    let all = rows_then g.K.Ord.cmp c.room_for-place.ensures.block c.room_for-place.ensures.rows c.args.value c.put-old.ensures.blocks in
    let old = c.put-old.ensures.old ∙ value_there g.K.Ord.cmp c.room_for-place.ensures.block c.room_for-place.ensures.rows in
    let is = ap is_some (sym old) ∙ c.if-is_none.ensures in
    let len = rw is at (length-with_row g.K.Ord.cmp g.met.K.Ord.total (joined c.self.inside.blocks.blocks) c.args.key c.args.value c.self.invariant.0) in
    let claim = rw (c.if-is_none.ensures) at c.put-old.ensures.claim in (
      rw all (IsAscending-with_row g.K.Ord.cmp g.met.K.Ord.total _ _ _ c.self.invariant.0),
      omega (arith, len, ap length all, c.self.invariant.1),
      c.self.invariant.2,
      (let kept = some_says _ _ is c.room_for-place.ensures.there in
          λ fewer. omega (
            arith,
            fewer,
            claim,
            c.room_for-place.ensures.claim,
            kept,
            c.put-old.ensures.free,
            c.self.invariant.3 (omega (arith, fewer, kept, c.put-old.ensures.free)),
          )),
    )

pub returns-then-is_none-clause-old : goal.returns-then-is_none-clause-old
returns-then-is_none-clause-old g c =
    rw (← c.self.view_is) (c.put-old.ensures.old ∙ value_there g.K.Ord.cmp c.room_for-place.ensures.block c.room_for-place.ensures.rows)

pub returns-else-is_none-clause-old : goal.returns-else-is_none-clause-old
returns-else-is_none-clause-old g c =
    rw (← c.self.view_is) (c.put-old.ensures.old ∙ value_there g.K.Ord.cmp c.room_for-place.ensures.block c.room_for-place.ensures.rows)
