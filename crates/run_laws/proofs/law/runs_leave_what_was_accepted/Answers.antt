use Rattle.run_laws.proofs.Left.{run_leaves}
use Rattle.run_laws.proofs.law.runs_leave_what_was_accepted.Goals as goal

pub returns : goal.returns
returns c = run_leaves
