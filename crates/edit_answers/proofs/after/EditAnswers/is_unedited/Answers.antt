use Rattle.std.proofs.Common.{ap, ◌∙◌}
use Rattle.answer_laws.specs.EditedAnswers.{is_unedited}
use Rattle.edit_answers.proofs.Unedited.{unedited_when}
use Rattle.edit_answers.proofs.after.EditAnswers.is_unedited.Goals as goal

pub returns : goal.returns
returns c =
    unedited_when c.is_none.result c.find.result c.self.inside.edits.now.edits c.args.name c.is_none.ensures c.find.ensures
    ∙ ap (λ v. is_unedited v.edits c.args.name) c.self.view_is
