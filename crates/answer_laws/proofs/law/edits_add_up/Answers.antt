use Rattle.answer_laws.proofs.AddedUp.{add_up}
use Rattle.answer_laws.proofs.law.edits_add_up.Goals as goal

pub returns : goal.returns
returns c = add_up
