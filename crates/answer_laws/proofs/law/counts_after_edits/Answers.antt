use Rattle.answer_laws.proofs.Counts.{counts}
use Rattle.answer_laws.proofs.law.counts_after_edits.Goals as goal

pub returns : goal.returns
returns c = counts c.edits_add_up.ensures
