use Rattle.std.proofs.Common.{◌≡◌, filter, take}
use Rattle.cell_spec.specs.declared.key.Ref.{Ref}
use Rattle.answer_laws.specs.EditedAnswers.{is_unedited}
use Rattle.edit_answers.proofs.after.EditAnswers.unedited_pointers.Given as goal

abbrev pub invariant-loop-pointer : goal.invariant-loop-pointer
invariant-loop-pointer l = l.list.items ≡ filter (λ (r : Ref). is_unedited l.self.edits r.from) (take l.pointer-index l.before)
