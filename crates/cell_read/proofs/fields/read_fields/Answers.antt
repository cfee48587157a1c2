use Rattle.std.proofs.Common.{◌≤◌, length, sym, ◌∙◌, arith}
use Rattle.cell_read.proofs.FieldSteps.{fault_end}
use Rattle.cell_read.proofs.fields.read_fields.Goals as goal

pub returns-clause-good : goal.returns-clause-good
returns-clause-good c = let past : length c.args.frame.now.fields ≤ c.loop-k.k = omega arith in
    sym c.loop-k.invariant.good ∙ fault_end c.args.nall c.args.kind c.args.frame.now.fields c.loop-k.k past
