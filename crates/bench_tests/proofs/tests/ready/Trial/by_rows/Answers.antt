use Rattle.std.proofs.Common.{[], arith}
use Rattle.bench_tests.proofs.ReadyRows.{least_budget, rows_are_ready}
use Rattle.bench_tests.proofs.tests.ready.Trial.by_rows.Goals as goal

pub planned-requires-clause-ready : goal.planned-requires-clause-ready
planned-requires-clause-ready g c = rows_are_ready c.args.self.now.bench.now c.args.self.now.set.now.edits [] c.args.self.now.rows c.requires.rows

pub returns : goal.returns
returns g c =
    let least = least_budget c.args.self.now.bench.now c.args.self.now.set.now.edits c.args.self.now.rows c.requires.rows in
    omega (arith, least, c.planned.ensures.steps)
