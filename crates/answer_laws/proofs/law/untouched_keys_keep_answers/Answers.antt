use Rattle.answer_laws.proofs.Untouched.{answer_kept}
use Rattle.answer_laws.proofs.law.untouched_keys_keep_answers.Goals as goal

pub returns : goal.returns
returns c edits cell fit k clear = answer_kept edits cell fit k clear
