use Rattle.row_spec.specs.Blocks.{rows_of}
use Rattle.row_spec.proofs.Joined.{claim_of-bound}
use Rattle.row_spec.proofs.Runs.{few_rows}
use Rattle.row_table.proofs.blocks.Blocks.len.Goals as goal

pub returns-clause-claim : goal.returns-clause-claim
returns-clause-claim g c = rw (← c.self.view_is) (claim_of-bound (rows_of c.self.inside.runs.items) (few_rows c.self.inside.runs.items c.self.invariant.0))
