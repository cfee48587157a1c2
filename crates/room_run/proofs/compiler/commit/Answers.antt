use Rattle.room_run.proofs.Calls.{cut_err}
use Rattle.room_run.proofs.compiler.commit.Goals as goal

pub returns-in-Ok-prepare-clause-err : goal.returns-in-Ok-prepare-clause-err
returns-in-Ok-prepare-clause-err g c = cut_err c.commit.result c.args.desk.now c.commit.new.desk _ c.commit.ensures.same c.commit.ensures.err
