use Rattle.edit_laws.proofs.Runs.{runs_leave_writable}
use Rattle.edit_laws.proofs.law.runs_leave_a_writable_cell.Goals as goal

pub returns : goal.returns
returns c = runs_leave_writable
