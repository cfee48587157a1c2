use Rattle.edit_laws.proofs.Refusals.{refusals_are_exact}
use Rattle.edit_laws.proofs.law.refusals_tell_what_a_cell_takes.Goals as goal

pub returns : goal.returns
returns c = refusals_are_exact
