use Rattle.answer_laws.proofs.EditedCell.{edits_keep_writable}
use Rattle.answer_laws.proofs.law.edits_keep_a_cell_writable.Goals as goal

pub returns : goal.returns
returns c = edits_keep_writable
