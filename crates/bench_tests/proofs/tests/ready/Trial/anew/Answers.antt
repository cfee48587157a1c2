use Rattle.bench_tests.proofs.ReadyRows.{rows_are_ready}
use Rattle.bench_tests.proofs.tests.ready.Trial.anew.Goals as goal

pub planned-requires-clause-ready : goal.planned-requires-clause-ready
planned-requires-clause-ready g c =
    let trial = c.args.self.now in rows_are_ready trial.bench.now trial.set.now.edits c.deref.result.now trial.rows c.requires.rows
