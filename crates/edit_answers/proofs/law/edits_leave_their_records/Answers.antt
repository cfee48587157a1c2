use Rattle.edit_answers.proofs.NamesAfter.{names_after}
use Rattle.edit_answers.proofs.law.edits_leave_their_records.Goals as goal

pub returns : goal.returns
returns c = names_after
