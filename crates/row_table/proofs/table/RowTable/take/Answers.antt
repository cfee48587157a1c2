use Rattle.std.proofs.Common.{◌≡◌, ℕ, ◌+◌, ◌-◌, ◌*◌, ◌^◌, ◌<◌, ◌≤◌, List, Bool, Option, cond, Ordering, arith, ap, sym, ◌∙◌, length, is_some}
use Rattle.std.specs.Cmp.{IsTotalOrder}
use Rattle.row_spec.specs.Rows.{IsAscending, value_of, without_key}
use Rattle.row_spec.specs.Blocks.{IsBlockFor, IsCovered, block_at, claim_of, joined, replaced}
use Rattle.row_spec.proofs.Ascending.{IsAscending-without_key}
use Rattle.row_spec.proofs.Changes.{length-without_key}
use Rattle.row_spec.proofs.Whole.{value_of-block, without_key-block}
use Rattle.row_table.proofs.table.RowTable.take.Goals as goal

-- what a removal from the block for a key makes of all rows
module _ {K V : Type 0} (cmp : K → K → Ordering) {blocks : List (List (K × V))} {key : K} {place : ℕ} (found : IsBlockFor cmp blocks key place) where
  value_there : value_of cmp (block_at blocks place) key ≡ value_of cmp (joined blocks) key
  value_there = sym (value_of-block cmp blocks key place found)

  rows_left : {now : List (List (K × V))} → now ≡ replaced blocks place (without_key cmp (block_at blocks place) key)
      → joined now ≡ without_key cmp (joined blocks) key
  rows_left is = ap joined is ∙ without_key-block cmp blocks key place found

  count_left : IsTotalOrder cmp → {old : Option V} {some : Bool} → old ≡ value_of cmp (block_at blocks place) key → is_some old ≡ some
      → length (without_key cmp (joined blocks) key) + cond some 1 0 ≡ length (joined blocks)
  count_left total is holds = rw (ap is_some (sym (is ∙ value_there)) ∙ holds) at (length-without_key cmp total (joined blocks) key)

  -- what the table keeps, whether there was a row or none
  kept : IsTotalOrder cmp → {old : Option V} {some : Bool} → old ≡ value_of cmp (block_at blocks place) key → is_some old ≡ some
      → {now : List (List (K × V))} → now ≡ replaced blocks place (without_key cmp (block_at blocks place) key)
      → (len left spare free freed : ℕ) → left ≡ len - cond some 1 0 → free ≤ freed → claim_of now + 128 * free ≤ claim_of blocks + 128 * freed
      → IsAscending cmp (joined blocks) × (len ≡ length (joined blocks)) × (len + spare < 2 ^ 64) × IsCovered blocks free spare
      → IsAscending cmp (joined now) × (left ≡ length (joined now)) × (left + spare < 2 ^ 64) × IsCovered now freed spare
  kept total {some = some} is holds left_is len left spare free freed counted more claim old =
      let count = count_left total is holds in
      let all = rows_left left_is in (
        rw all (IsAscending-without_key cmp (joined blocks) key old.0),
        omega (arith, count, ap length all, counted, old.1),
        omega (arith, counted, old.2),
        λ fewer. omega (arith, fewer, claim, more, old.3 (omega (arith, fewer, more))),
      )

pub overflow_sub-self : goal.overflow_sub-self
overflow_sub-self g c =
    omega (arith, count_left g.K.Ord.cmp c.block_for-place.ensures g.met.K.Ord.total c.take-old.ensures.old (sym c.if-is_some.ensures), c.self.invariant.1)

pub invariant_of-self : goal.invariant_of-self
invariant_of-self g c = kept g.K.Ord.cmp c.block_for-place.ensures g.met.K.Ord.total c.take-old.ensures.old (sym c.if-is_some.ensures)
    c.take-old.ensures.blocks _ _ _ _ _ (omega arith) c.take-old.ensures.free c.take-old.ensures.claim c.self.invariant

pub returns-then-is_some-clause-rows : goal.returns-then-is_some-clause-rows
returns-then-is_some-clause-rows g c = rw (← c.self.view_is) (rows_left g.K.Ord.cmp c.block_for-place.ensures c.take-old.ensures.blocks)

pub returns-else-is_some-clause-rows : goal.returns-else-is_some-clause-rows
returns-else-is_some-clause-rows g c = rw (← c.self.view_is) (rows_left g.K.Ord.cmp c.block_for-place.ensures c.take-old.ensures.blocks)

pub invariant_of-self-else-is_some : goal.invariant_of-self-else-is_some
invariant_of-self-else-is_some g c = kept g.K.Ord.cmp c.block_for-place.ensures g.met.K.Ord.total c.take-old.ensures.old (sym c.if-is_some.ensures)
    c.take-old.ensures.blocks _ _ _ _ _ (omega arith) c.take-old.ensures.free c.take-old.ensures.claim c.self.invariant

pub returns-then-is_some-clause-old : goal.returns-then-is_some-clause-old
returns-then-is_some-clause-old g c = rw (← c.self.view_is) (c.take-old.ensures.old ∙ value_there g.K.Ord.cmp c.block_for-place.ensures)

pub returns-else-is_some-clause-old : goal.returns-else-is_some-clause-old
returns-else-is_some-clause-old g c = rw (← c.self.view_is) (c.take-old.ensures.old ∙ value_there g.K.Ord.cmp c.block_for-place.ensures)
