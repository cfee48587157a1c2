use Rattle.edit_laws.proofs.TypedEdits.{edits_keep_types}
use Rattle.edit_laws.proofs.law.edits_keep_the_types_of_a_cell.Goals as goal

pub returns : goal.returns
returns c = edits_keep_types
