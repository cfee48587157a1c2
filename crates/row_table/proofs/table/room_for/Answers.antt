use Rattle.std.proofs.Common.{arith, ap, sym, ◌∙◌, is_some, length}
use Rattle.row_spec.specs.Rows.{value_of}
use Rattle.row_spec.proofs.Whole.{value_of-block}
use Rattle.row_spec.proofs.Joined.{joined-halved, claim_of-halved}
use Rattle.row_spec.proofs.Runs.{none_holds, some_asks_nothing, is_some-copied, none_says_nothing}
use Rattle.row_table.proofs.table.room_for.Goals as goal

pub returns-then-is_some-clause-room : goal.returns-then-is_some-clause-room
returns-then-is_some-clause-room g c =
    let value = c.get.ensures ∙ ap (λ rows. value_of g.K.Ord.cmp rows c.args.key.now) c.run-run.ensures.rows
    ∙ sym (value_of-block g.K.Ord.cmp _ _ _ c.block_for-place.ensures) in
    some_asks_nothing _ _ (ap is_some (sym value) ∙ is_some-copied c.get.result ∙ sym c.if-is_some.ensures)

pub halve_for-requires-clause-free : goal.halve_for-requires-clause-free
halve_for-requires-clause-free g c =
    let value = c.get.ensures ∙ ap (λ rows. value_of g.K.Ord.cmp rows c.args.key.now) c.run-run.ensures.rows
    ∙ sym (value_of-block g.K.Ord.cmp _ _ _ c.block_for-place.ensures) in
    none_holds _ _ (ap is_some (sym value) ∙ is_some-copied c.get.result ∙ sym c.if-is_some.ensures) c.requires.free

pub returns-clause-rows : goal.returns-clause-rows
returns-clause-rows g c = rw (c.halve_for.ensures.blocks) (joined-halved c.args.blocks.now.blocks c.block_for-place.result c.block_for-place.ensures.in_range)

pub returns-clause-claim : goal.returns-clause-claim
returns-clause-claim g c = rw (c.halve_for.ensures.blocks) (omega (
  arith,
  c.halve_for.ensures.free,
  claim_of-halved c.args.blocks.now.blocks c.block_for-place.result c.block_for-place.ensures.in_range
      (omega (arith, c.if-len-lt-BLOCK_ROWS.false, c.len.ensures.len, c.run-run.ensures.few, ap length c.run-run.ensures.rows)),
))

pub returns-clause-there : goal.returns-clause-there
returns-clause-there g c =
    let value = c.get.ensures ∙ ap (λ rows. value_of g.K.Ord.cmp rows c.args.key.now) c.run-run.ensures.rows
    ∙ sym (value_of-block g.K.Ord.cmp _ _ _ c.block_for-place.ensures) in
    none_says_nothing _ _ (ap is_some (sym value) ∙ is_some-copied c.get.result ∙ sym c.if-is_some.ensures)
