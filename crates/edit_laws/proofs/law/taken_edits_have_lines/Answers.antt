use Rattle.edit_laws.proofs.TakenLines.{taken_edits_have_lines}
use Rattle.edit_laws.proofs.law.taken_edits_have_lines.Goals as goal

pub returns : goal.returns
returns c = taken_edits_have_lines
