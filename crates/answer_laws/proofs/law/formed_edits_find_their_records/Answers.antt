use Rattle.answer_laws.proofs.FormedEdits.{find_theirs}
use Rattle.answer_laws.proofs.law.formed_edits_find_their_records.Goals as goal

pub returns : goal.returns
returns c = find_theirs
