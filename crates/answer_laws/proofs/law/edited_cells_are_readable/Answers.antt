use Rattle.answer_laws.proofs.FormedEdits.{still_readable}
use Rattle.answer_laws.proofs.law.edited_cells_are_readable.Goals as goal

pub returns : goal.returns
returns c = still_readable c.formed_edits_find_their_records.ensures c.counts_after_edits.ensures
