use Rattle.std.proofs.Common.{arith}
use Rattle.check_record.proofs.ReadSets.{some_keys}
use Rattle.check_record.proofs.verdict.verdict_rec.Goals as goal

pub returns-in-Some-H-clause-steps : goal.returns-in-Some-H-clause-steps
returns-in-Some-H-clause-steps g c = omega (arith, c.get.ensures.step, some_keys (g.B.Look.cell c.args.look.now) c.args.name)
