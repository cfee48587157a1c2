use Rattle.std.proofs.Common.{◌+◌, false, Ok, sym, ap, ◌∙◌}
use Rattle.std.proofs.lemmas.Result.{err_from_is_err_and}
use Rattle.file_spec.specs.FileRecords.{records_after}
use Rattle.update_spec.specs.UpdateHead.{update_identification}
use Rattle.update_apply.proofs.FileSteps.{next-no_frame, next-refused, next-said}
use Rattle.update_apply.proofs.file.identification_at.Goals as goal

pub returns-in_err-frame-clause-next : goal.returns-in_err-frame-clause-next
returns-in_err-frame-clause-next c =
    next-no_frame 2 (update_identification c.args.head.now) c.args.bytes.now c.args.at false _ c.from_residual.result c.from_residual.ensures.1
    c.requires (sym c.in_err-frame.ensures.exact)

pub returns-in_err-general-clause-next : goal.returns-in_err-general-clause-next
returns-in_err-general-clause-next c =
    let refused = err_from_is_err_and c.from_residual-in_err-general.result c.from_residual-in_err-general.ensures.1 in
    rw (refused.1, refused.2)
    (next-refused 2 (update_identification c.args.head.now) c.args.bytes.now c.args.at false c.in_ok-frame.frame c.in_err-general.field-0.0
    (sym c.in_ok-frame.ensures.exact) c.in_err-general.ensures)

pub returns-clause-next : goal.returns-clause-next
returns-clause-next c = let read = c.in_ok-general in
    next-said 2 (update_identification c.args.head.now) c.args.bytes.now c.args.at false c.in_ok-frame.frame read.general
    (sym c.in_ok-frame.ensures.exact) read.ensures
    ∙ ap (λ n. Ok (read.general, records_after c.args.bytes.now (c.args.at + n) false)) (sym c.length.ensures)
