use Rattle.std.proofs.Common.{◌≡◌, filter, take}
use Rattle.answer_laws.specs.EditedAnswers.{is_unedited}
use Rattle.edit_answers.proofs.after.EditAnswers.unedited_bearers.Given as goal

abbrev pub invariant-loop-name : goal.invariant-loop-name
invariant-loop-name l = l.list.items ≡ filter (is_unedited l.self.edits) (take l.name-index l.before)
