use Rattle.std.proofs.Common.{arith, ap, sym, ◌∙◌, ◌≡◌, ◌<◌, ◌+◌, length, refl, set, [], length-set}
use Rattle.row_spec.specs.Blocks.{rows_of, block_at, AreStarts}
use Rattle.row_spec.proofs.Joined.{rows_before-behind, remove-set, claim_of-remove}
use Rattle.row_table.proofs.Claims.{claim_set}
use Rattle.row_table.proofs.Starts.{starts_lowered, starts_removed, starts_same}
use Rattle.row_spec.proofs.Runs.{block_at-rows_of, filled_at, filled_set, filled_remove, rows_of-set, rows_of-remove, replaced_some, replaced_none, emptied}
use Rattle.row_spec.proofs.Runs.{empty_push, in_runs}
use Rattle.std.proofs.lemmas.Grind.{get_or-set_at}
use Rattle.row_table.proofs.blocks.Blocks.take.Goals as goal

-- the block has a row, so every start behind it is above 0
pub lower-requires : goal.lower-requires
lower-requires g c = λ k from lt.
    let in_blocks : c.args.place < length (rows_of c.self.inside.runs.items) = rw (← c.self.view_is) at c.requires in
    let at = block_at-rows_of c.self.inside.runs.items c.args.place in_blocks c.index_mut-run.result.now c.index_mut-run.ensures.value in
    let was = filled_at c.self.inside.runs.items c.args.place in_blocks c.index_mut-run.result.now c.index_mut-run.ensures.value c.self.invariant.0 in
    omega (
      arith,
      was.some,
      ap length at,
      c.self.invariant.2.start k (omega (arith, c.self.invariant.2.count, c.self.inside.starts.ok.0)),
      rows_before-behind (rows_of c.self.inside.runs.items) c.args.place k (omega arith) in_blocks,
    )

-- the block was left empty, and went to the reserve
pub invariant_of-self : goal.invariant_of-self
invariant_of-self g c =
    let in_blocks : c.args.place < length (rows_of c.self.inside.runs.items) = rw (← c.self.view_is) at c.requires in
    let at = block_at-rows_of c.self.inside.runs.items c.args.place in_blocks c.index_mut-run.result.now c.index_mut-run.ensures.value in
    let was = filled_at c.self.inside.runs.items c.args.place in_blocks c.index_mut-run.result.now c.index_mut-run.ensures.value c.self.invariant.0 in
    let len = rw (← c.if-is_some.ensures) at c.take-old.ensures.len in
    let shrunk : length c.take-old.new.self.rows + 1 ≡ length (block_at (rows_of c.self.inside.runs.items) c.args.place) = omega (arith, len, ap length at) in
    let lowered : AreStarts (set (rows_of c.self.inside.runs.items) c.args.place c.take-old.new.self.rows) c.lower.new.starts.items =
    starts_lowered _ c.self.inside.starts.items _ _ c.self.invariant.2 in_blocks _ shrunk
    (omega (arith, c.lower.ensures.len, c.lower.new.starts.ok.0, c.self.inside.starts.ok.0)) c.lower.ensures.before
    (λ k from lt. c.lower.ensures.lowered k from (omega (arith, c.self.inside.starts.ok.0))) in
    let gone : length c.take-old.new.self.rows ≡ 0 = sym c.len-left.ensures.len ∙ c.if-left-eq0.true in
    let empty = emptied c.self.inside.runs.items c.args.place c.take-old.new.self c.remove-empty.result (in_runs _ _ in_blocks) c.remove-empty.ensures.value in
    let here : block_at (set (rows_of c.self.inside.runs.items) c.args.place c.take-old.new.self.rows) c.args.place ≡ c.take-old.new.self.rows =
    get_or-set_at (rows_of c.self.inside.runs.items) c.args.place c.args.place c.take-old.new.self.rows [] refl in_blocks in (
      rw (c.remove-empty.ensures.items, remove-set c.self.inside.runs.items c.args.place c.take-old.new.self) (filled_remove _ _ c.self.invariant.0),
      rw (c.push_reserved.ensures.items) (empty_push _ _ c.self.invariant.1 (ap (λ run. length run.rows) empty ∙ gone)
          (rw empty (omega (arith, was.room, c.take-old.ensures.room)))),
      rw (
        c.remove-empty.ensures.items,
        rows_of-remove (set c.self.inside.runs.items c.args.place c.take-old.new.self) c.args.place,
        rows_of-set c.self.inside.runs.items c.args.place c.take-old.new.self,
      )
          (starts_removed _ c.lower.new.starts.items _ _ lowered
          (omega (arith, in_blocks, length-set (rows_of c.self.inside.runs.items) c.args.place c.take-old.new.self.rows))
          (ap length here ∙ gone) (omega (arith, c.remove-start.ensures.len, c.remove-start.new.self.ok.0, c.lower.new.starts.ok.0))
          c.remove-start.ensures.by_index.0 c.remove-start.ensures.by_index.1),
      (
        omega (arith, c.remove-empty.ensures.len, c.remove-empty.ensures.capacity, c.push_reserved.ensures.len, c.self.invariant.3.0),
        omega (arith, c.remove-empty.ensures.len, c.push_reserved.ensures.len, c.remove-start.ensures.capacity, c.lower.ensures.capacity, c.self.invariant.3.1),
        omega (arith, c.remove-empty.ensures.len, c.push_reserved.ensures.len, c.push_reserved.ensures.capacity, c.self.invariant.3.2),
      ),
    )

-- the block has rows left
pub invariant_of-self-else-left-eq0 : goal.invariant_of-self-else-left-eq0
invariant_of-self-else-left-eq0 g c =
    let in_blocks : c.args.place < length (rows_of c.self.inside.runs.items) = rw (← c.self.view_is) at c.requires in
    let at = block_at-rows_of c.self.inside.runs.items c.args.place in_blocks c.index_mut-run.result.now c.index_mut-run.ensures.value in
    let len = rw (← c.if-is_some.ensures) at c.take-old.ensures.len in
    let shrunk : length c.take-old.new.self.rows + 1 ≡ length (block_at (rows_of c.self.inside.runs.items) c.args.place) = omega (arith, len, ap length at) in
    let was = filled_at c.self.inside.runs.items c.args.place in_blocks c.index_mut-run.result.now c.index_mut-run.ensures.value c.self.invariant.0 in
    let lowered : AreStarts (set (rows_of c.self.inside.runs.items) c.args.place c.take-old.new.self.rows) c.lower.new.starts.items =
    starts_lowered _ c.self.inside.starts.items _ _ c.self.invariant.2 in_blocks _ shrunk
    (omega (arith, c.lower.ensures.len, c.lower.new.starts.ok.0, c.self.inside.starts.ok.0)) c.lower.ensures.before
    (λ k from lt. c.lower.ensures.lowered k from (omega (arith, c.self.inside.starts.ok.0))) in (
      filled_set _ _ _ c.self.invariant.0 (omega (arith, c.len-left.ensures.len, c.if-left-eq0.false)) (omega (arith, was.few, len))
          (omega (arith, was.room, c.take-old.ensures.room)),
      c.self.invariant.1,
      rw (rows_of-set c.self.inside.runs.items c.args.place c.take-old.new.self) lowered,
      (c.self.invariant.3.0, rw c.lower.ensures.capacity c.self.invariant.3.1, c.self.invariant.3.2),
    )

-- nothing was there
pub invariant_of-self-else-is_some : goal.invariant_of-self-else-is_some
invariant_of-self-else-is_some g c =
    let in_blocks : c.args.place < length (rows_of c.self.inside.runs.items) = rw (← c.self.view_is) at c.requires in
    let at = block_at-rows_of c.self.inside.runs.items c.args.place in_blocks c.index_mut-run.result.now c.index_mut-run.ensures.value in
    let was = filled_at c.self.inside.runs.items c.args.place in_blocks c.index_mut-run.result.now c.index_mut-run.ensures.value c.self.invariant.0 in
    let len = rw (← c.if-is_some.ensures) at c.take-old.ensures.len in
    let same : length c.take-old.new.self.rows ≡ length (block_at (rows_of c.self.inside.runs.items) c.args.place) = omega (arith, ap length at, len) in (
      filled_set _ _ _ c.self.invariant.0 (omega (arith, was.some, len)) (omega (arith, was.few, len)) (omega (arith, was.room, c.take-old.ensures.room)),
      c.self.invariant.1,
      rw (rows_of-set c.self.inside.runs.items c.args.place c.take-old.new.self)
          (starts_same _ _ c.self.inside.starts.items _ c.self.invariant.2 in_blocks _ same),
      c.self.invariant.3,
    )

pub returns-else-left-eq0-clause-claim : goal.returns-else-left-eq0-clause-claim
returns-else-left-eq0-clause-claim g c =
    let claim = claim_set c.self.inside.runs.items c.args.place c.index_mut-run.result.now c.take-old.new.self (rw (← c.self.view_is) at c.requires)
    c.index_mut-run.ensures.value in
    rw (rows_of-set, ← c.self.view_is) (omega (arith, claim, (rw (← c.if-is_some.ensures) at c.take-old.ensures.len)))

pub returns-then-left-eq0-clause-blocks : goal.returns-then-left-eq0-clause-blocks
returns-then-left-eq0-clause-blocks g c =
    let in_blocks : c.args.place < length (rows_of c.self.inside.runs.items) = rw (← c.self.view_is) at c.requires in
    let at = block_at-rows_of c.self.inside.runs.items c.args.place in_blocks c.index_mut-run.result.now c.index_mut-run.ensures.value in
    rw (
      c.remove-empty.ensures.items,
      remove-set c.self.inside.runs.items c.args.place c.take-old.new.self,
      rows_of-remove c.self.inside.runs.items c.args.place,
      ← c.self.view_is,
    )
    (rw (at, ← c.take-old.ensures.rows) (sym (replaced_none (rows_of c.self.inside.runs.items) c.args.place _
    (sym c.len-left.ensures.len ∙ c.if-left-eq0.true))))

pub returns-else-left-eq0-clause-blocks : goal.returns-else-left-eq0-clause-blocks
returns-else-left-eq0-clause-blocks g c =
    let in_blocks : c.args.place < length (rows_of c.self.inside.runs.items) = rw (← c.self.view_is) at c.requires in
    let at = block_at-rows_of c.self.inside.runs.items c.args.place in_blocks c.index_mut-run.result.now c.index_mut-run.ensures.value in
    rw (rows_of-set c.self.inside.runs.items c.args.place c.take-old.new.self, ← c.self.view_is, at, ← c.take-old.ensures.rows)
    (sym (replaced_some _ _ _ (omega (arith, c.len-left.ensures.len, c.if-left-eq0.false))))

pub returns-else-is_some-clause-blocks : goal.returns-else-is_some-clause-blocks
returns-else-is_some-clause-blocks g c =
    let in_blocks : c.args.place < length (rows_of c.self.inside.runs.items) = rw (← c.self.view_is) at c.requires in
    let at = block_at-rows_of c.self.inside.runs.items c.args.place in_blocks c.index_mut-run.result.now c.index_mut-run.ensures.value in
    let was = filled_at c.self.inside.runs.items c.args.place in_blocks c.index_mut-run.result.now c.index_mut-run.ensures.value c.self.invariant.0 in
    let len = rw (← c.if-is_some.ensures) at c.take-old.ensures.len in
    rw (rows_of-set c.self.inside.runs.items c.args.place c.take-old.new.self, ← c.self.view_is, at, ← c.take-old.ensures.rows)
    (sym (replaced_some _ _ _ (omega (arith, len, was.some))))

pub returns-then-left-eq0-clause-claim : goal.returns-then-left-eq0-clause-claim
returns-then-left-eq0-clause-claim g c =
    let in_blocks : c.args.place < length (rows_of c.self.inside.runs.items) = rw (← c.self.view_is) at c.requires in
    let at = block_at-rows_of c.self.inside.runs.items c.args.place in_blocks c.index_mut-run.result.now c.index_mut-run.ensures.value in
    let len = rw (← c.if-is_some.ensures) at c.take-old.ensures.len in
    rw (
      c.remove-empty.ensures.items,
      remove-set c.self.inside.runs.items c.args.place c.take-old.new.self,
      rows_of-remove c.self.inside.runs.items c.args.place,
      ← c.self.view_is,
    )
    (omega (arith, c.push_reserved.ensures.len, claim_of-remove (rows_of c.self.inside.runs.items) c.args.place in_blocks))

pub returns-else-is_some-clause-claim : goal.returns-else-is_some-clause-claim
returns-else-is_some-clause-claim g c =
    let claim = claim_set c.self.inside.runs.items c.args.place c.index_mut-run.result.now c.take-old.new.self (rw (← c.self.view_is) at c.requires)
    c.index_mut-run.ensures.value in
    rw (rows_of-set, ← c.self.view_is) (omega (arith, claim, (rw (← c.if-is_some.ensures) at c.take-old.ensures.len)))
