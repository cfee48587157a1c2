use Rattle.answer_laws.proofs.EditedNames.{record_is}
use Rattle.answer_laws.proofs.EditedPointers.{pointers_are}
use Rattle.answer_laws.proofs.EditedBearers.{bearers_are}
use Rattle.answer_laws.proofs.law.edited_answers.Goals as goal

pub returns : goal.returns
returns c edits cell fit = record { records = record_is edits cell fit; pointers = pointers_are edits cell fit; identities = bearers_are edits cell fit }
