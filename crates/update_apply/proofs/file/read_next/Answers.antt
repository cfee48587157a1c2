use Rattle.std.proofs.Common.{◌+◌, false, sym, ap, ◌∙◌}
use Rattle.std.proofs.lemmas.Result.{err_from_is_err_and}
use Rattle.file_spec.specs.FileRecords.{records_after}
use Rattle.update_spec.specs.UpdatedCell.{edits_with}
use Rattle.update_apply.proofs.FileSteps.{edits-frame_fault, edits-next, edits-refused}
use Rattle.update_apply.proofs.file.read_next.Goals as goal

pub returns-in_err-frame-clause-fault : goal.returns-in_err-frame-clause-fault
returns-in_err-frame-clause-fault c =
    edits-frame_fault c.args.update.now.look.now c.args.level c.args.number c.args.earlier c.args.update.now.bytes.now c.args.at _
    c.from_residual.result c.from_residual.ensures.1 c.requires.before_end (sym c.in_err-frame.ensures.exact)

pub returns-in_err-edit-clause-fault : goal.returns-in_err-edit-clause-fault
returns-in_err-edit-clause-fault c =
    let refused = err_from_is_err_and c.from_residual-in_err-edit.result c.from_residual-in_err-edit.ensures.1 in
    rw (refused.1, refused.2)
    (edits-refused c.args.update.now.look.now c.args.level c.args.number c.args.earlier c.args.update.now.bytes.now c.args.at c.in_ok-frame.frame
    c.in_err-edit.field-0.0 c.requires.before_end (sym c.in_ok-frame.ensures.exact) c.in_err-edit.ensures)

pub returns-clause-step : goal.returns-clause-step
returns-clause-step c =
    let look = c.args.update.now.look.now in let bytes = c.args.update.now.bytes.now in
    let level = c.args.level in let number = c.args.number in let at = c.args.at in
    edits-next look level number c.args.earlier bytes at c.in_ok-frame.frame c.in_ok-edit.edit c.requires.before_end (sym c.in_ok-frame.ensures.exact)
    c.in_ok-edit.ensures
    ∙ ap (λ edits. edits_with look level (number + 1) edits (records_after bytes (at + c.in_ok-frame.frame.length) false)) (sym c.in_ok-more.ensures)
    ∙ ap (λ n. edits_with look level (number + 1) c.in_ok-more.more (records_after bytes (at + n) false)) (sym c.length.ensures)
