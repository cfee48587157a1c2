use Rattle.std.proofs.Common.{sym, ◌∙◌}
use Rattle.rule_spec.specs.Vectors.{meets_wrongly}
use Rattle.check_record.proofs.BlockRows.{block_hit, block_missed}
use Rattle.check_record.proofs.self_meet.first_in_blocks.Goals as goal

pub returns-in-Some : goal.returns-in-Some
returns-in-Some c = sym (block_hit (meets_wrongly c.args.closed c.args.count) c.args.a c.args.blocks.now c.loop-block.block-index
    _ c.loop-block-test.true c.in-Some.pair (sym c.in-Some.ensures)) ∙ c.loop-block.invariant

pub loop-block-preserved : goal.loop-block-preserved
loop-block-preserved c = sym (block_missed (meets_wrongly c.args.closed c.args.count) c.args.a c.args.blocks.now c.loop-block.block-index
    _ c.loop-block-test.true (sym c.in_default.ensures)) ∙ c.loop-block.invariant
