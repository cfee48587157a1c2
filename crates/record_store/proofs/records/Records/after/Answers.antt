use Rattle.std.proofs.Common.{[], ◌∷◌, sym, ap, subst, ◌∙◌}
use Rattle.cell_spec.specs.Edits.{apply_edits}
use Rattle.answer_laws.specs.EditedAnswers.{FindTheirRecords}
use Rattle.record_store.proofs.Edits.{no_edits, step_cell, step_fits}
use Rattle.record_store.proofs.records.Records.after.Goals as goal

pub loop-edit-init : goal.loop-edit-init
loop-edit-init c = no_edits c.args.self

pub edited-requires : goal.edited-requires
edited-requires c =
    subst (FindTheirRecords (c.edit-item.result ∷ [])) (sym c.loop-edit.invariant)
    (step_fits c.edits_add_up.ensures c.args.edits.now c.loop-edit.edit-index c.edit-item.result c.args.self c.loop-edit-test.true c.edit-item.is c.requires)

pub loop-edit-preserved : goal.loop-edit-preserved
loop-edit-preserved c =
    c.in_ok-records.ensures ∙ ap (apply_edits (c.edit-item.result ∷ [])) c.loop-edit.invariant
    ∙ step_cell c.edits_add_up.ensures c.args.edits.now c.loop-edit.edit-index c.edit-item.result c.args.self c.loop-edit-test.true c.edit-item.is c.requires
