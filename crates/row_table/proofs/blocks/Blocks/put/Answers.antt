use Rattle.std.proofs.Common.{arith, ap, sym, ◌∙◌, ◌≡◌, ◌<◌, ◌+◌, length, refl, is_some}
use Rattle.row_spec.specs.Blocks.{rows_of, block_at}
use Rattle.row_spec.proofs.Joined.{rows_before-all}
use Rattle.row_table.proofs.Claims.{claim_set}
use Rattle.row_table.proofs.Starts.{starts_raised, starts_same}
use Rattle.row_spec.proofs.Runs.{block_at-rows_of, filled_at, filled_set, rows_of-set, none_holds}
use Rattle.row_table.proofs.blocks.Blocks.put.Goals as goal

-- no start can pass the number of all rows
pub raise-requires : goal.raise-requires
raise-requires g c = λ k lt.
    let in_blocks : c.args.place < length (rows_of c.self.inside.runs.items) = rw (← c.self.view_is) at c.requires.place in
    let at = block_at-rows_of c.self.inside.runs.items c.args.place in_blocks c.index_mut.result.now c.index_mut.ensures.value in
    let fits = none_holds _ _ (sym (ap is_some c.put-old.ensures.old) ∙ c.if-is_none.ensures) (rw at at (rw (← c.self.view_is) at c.requires.fits)) in
    omega (
      arith,
      fits,
      c.self.invariant.2.start k (omega (arith, c.self.invariant.2.count, c.self.inside.starts.ok.0)),
      rows_before-all (rows_of c.self.inside.runs.items) k,
    )

-- a new key makes a row, for which there is room
pub invariant_of-self : goal.invariant_of-self
invariant_of-self g c =
    let in_blocks : c.args.place < length (rows_of c.self.inside.runs.items) = rw (← c.self.view_is) at c.requires.place in
    let at = block_at-rows_of c.self.inside.runs.items c.args.place in_blocks c.index_mut.result.now c.index_mut.ensures.value in
    let was = filled_at c.self.inside.runs.items c.args.place in_blocks c.index_mut.result.now c.index_mut.ensures.value c.self.invariant.0 in
    let fits = none_holds _ _ (sym (ap is_some c.put-old.ensures.old) ∙ c.if-is_none.ensures) (rw at at (rw (← c.self.view_is) at c.requires.fits)) in
    let len = rw (c.if-is_none.ensures) at c.put-old.ensures.len in
    let grown : length c.put-old.new.self.rows ≡ length (block_at (rows_of c.self.inside.runs.items) c.args.place) + 1 = omega (arith, ap length at) in
    let room = rw at at (rw (← c.self.view_is) at c.requires.room) in
    let few = none_holds _ _ (sym (ap is_some c.put-old.ensures.old) ∙ c.if-is_none.ensures) room in (
      filled_set _ _ _ c.self.invariant.0 (omega (arith, len)) (omega (arith, len, few)) (omega (arith, was.room, c.put-old.ensures.room)),
      c.self.invariant.1,
      rw (rows_of-set c.self.inside.runs.items c.args.place c.put-old.new.self)
          (starts_raised _ c.self.inside.starts.items _ _ c.self.invariant.2 in_blocks _ grown fits
          (omega (arith, c.raise.ensures.len, c.raise.new.starts.ok.0, c.self.inside.starts.ok.0)) c.raise.ensures.before
          (λ k from lt. c.raise.ensures.raised k from (omega (arith, c.self.inside.starts.ok.0)))),
      (c.self.invariant.3.0, rw c.raise.ensures.capacity c.self.invariant.3.1, c.self.invariant.3.2),
    )

-- a key that is there keeps the number of rows
pub invariant_of-self-else-is_none : goal.invariant_of-self-else-is_none
invariant_of-self-else-is_none g c =
    let in_blocks : c.args.place < length (rows_of c.self.inside.runs.items) = rw (← c.self.view_is) at c.requires.place in
    let at = block_at-rows_of c.self.inside.runs.items c.args.place in_blocks c.index_mut.result.now c.index_mut.ensures.value in
    let was = filled_at c.self.inside.runs.items c.args.place in_blocks c.index_mut.result.now c.index_mut.ensures.value c.self.invariant.0 in
    let len = rw (c.if-is_none.ensures) at c.put-old.ensures.len in
    let same : length c.put-old.new.self.rows ≡ length (block_at (rows_of c.self.inside.runs.items) c.args.place) = omega (arith, ap length at) in (
      filled_set _ _ _ c.self.invariant.0 (omega (arith, was.some, len)) (omega (arith, was.few, len)) (omega (arith, was.room, c.put-old.ensures.room)),
      c.self.invariant.1,
      rw (rows_of-set c.self.inside.runs.items c.args.place c.put-old.new.self)
          (starts_same _ _ c.self.inside.starts.items _ c.self.invariant.2 in_blocks _ same),
      c.self.invariant.3,
    )

pub returns-then-is_none-clause-claim : goal.returns-then-is_none-clause-claim
returns-then-is_none-clause-claim g c =
    let claim = claim_set c.self.inside.runs.items c.args.place c.index_mut.result.now c.put-old.new.self (rw (← c.self.view_is) at c.requires.place)
    c.index_mut.ensures.value in
    rw (c.if-is_none.ensures, rows_of-set, ← c.self.view_is) (omega (arith, claim, (rw (c.if-is_none.ensures) at c.put-old.ensures.len)))

pub returns-then-is_none-clause-blocks : goal.returns-then-is_none-clause-blocks
returns-then-is_none-clause-blocks g c =
    let in_blocks : c.args.place < length (rows_of c.self.inside.runs.items) = rw (← c.self.view_is) at c.requires.place in
    let at = block_at-rows_of c.self.inside.runs.items c.args.place in_blocks c.index_mut.result.now c.index_mut.ensures.value in
    rw (rows_of-set c.self.inside.runs.items c.args.place c.put-old.new.self, c.put-old.ensures.rows, ← at, ← c.self.view_is) refl

pub returns-else-is_none-clause-blocks : goal.returns-else-is_none-clause-blocks
returns-else-is_none-clause-blocks g c =
    let in_blocks : c.args.place < length (rows_of c.self.inside.runs.items) = rw (← c.self.view_is) at c.requires.place in
    let at = block_at-rows_of c.self.inside.runs.items c.args.place in_blocks c.index_mut.result.now c.index_mut.ensures.value in
    rw (rows_of-set c.self.inside.runs.items c.args.place c.put-old.new.self, c.put-old.ensures.rows, ← at, ← c.self.view_is) refl

pub returns-else-is_none-clause-claim : goal.returns-else-is_none-clause-claim
returns-else-is_none-clause-claim g c =
    let claim = claim_set c.self.inside.runs.items c.args.place c.index_mut.result.now c.put-old.new.self (rw (← c.self.view_is) at c.requires.place)
    c.index_mut.ensures.value in
    rw (c.if-is_none.ensures, rows_of-set, ← c.self.view_is) (omega (arith, claim, (rw (c.if-is_none.ensures) at c.put-old.ensures.len)))
