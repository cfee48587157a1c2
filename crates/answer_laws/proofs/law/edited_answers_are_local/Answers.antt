use Rattle.std.proofs.Common.{List, ap, sym, ◌∙◌}
use Rattle.s57_types.specs.declared.cell.Cell.{Cell}
use Rattle.cell_spec.specs.declared.edit.Edit.{Edit}
use Rattle.cell_spec.specs.declared.key.Key.{Key}
use Rattle.cell_spec.specs.declared.key.Key.TheVariants.{Name, Refs, Foid}
use Rattle.cell_spec.specs.Edits.{apply_edits}
use Rattle.cell_spec.specs.AnswersAlike.{AnswerAlike}
use Rattle.answer_laws.specs.EditedAnswers.{AnswersAfter, record_after, pointers_after, bearers_after}
use Rattle.answer_laws.proofs.law.edited_answers_are_local.Goals as goal

local : (edits : List Edit) (c d : Cell) (k : Key) → AnswersAfter edits c → AnswersAfter edits d → AnswerAlike c d k
    → AnswerAlike (apply_edits edits c) (apply_edits edits d) k
local edits c d (Name n) f g same = f.records n ∙ ap (record_after edits n) same ∙ sym (g.records n)
local edits c d (Refs n) f g same = f.pointers n ∙ ap (pointers_after edits n) same ∙ sym (g.pointers n)
local edits c d (Foid l) f g same = f.identities l ∙ ap (bearers_after edits l) same ∙ sym (g.identities l)

pub returns : goal.returns
returns c edits x y fit_x fit_y k same = local edits x y k (c.edited_answers.ensures edits x fit_x) (c.edited_answers.ensures edits y fit_y) same
