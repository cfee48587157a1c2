use Rattle.std.proofs.Common.{◌∙◌}
use Rattle.recheck.proofs.Prepared.{rows_right}
use Rattle.recheck.proofs.preparing.prepare.Goals as goal

pub returns-clause-right : goal.returns-clause-right
returns-clause-right g c = rows_right c.args.edits.edits c.args.bench.now c.with_ahead.result.rows (c.with_ahead.ensures.rows ∙ c.in_ok-rows.ensures.rows)
