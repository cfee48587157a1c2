use Rattle.std.proofs.Common.{◌+◌, false, Ok, sym, ap, ◌∙◌}
use Rattle.std.proofs.lemmas.Result.{err_from_is_err_and}
use Rattle.file_spec.specs.DecodedCell.{geographic_reference}
use Rattle.file_spec.specs.FileRecords.{records_after}
use Rattle.cell_read.proofs.FileSteps.{next-no_frame, next-refused, next-said}
use Rattle.cell_read.proofs.file.geographic_reference_at.Goals as goal

pub returns-in_err-frame-clause-next : goal.returns-in_err-frame-clause-next
returns-in_err-frame-clause-next c number =
    next-no_frame number geographic_reference c.args.bytes.now c.args.at false _ c.from_residual.result c.from_residual.ensures.1 c.requires
    (sym c.in_err-frame.ensures.exact)

pub returns-in_err-dspm-clause-next : goal.returns-in_err-dspm-clause-next
returns-in_err-dspm-clause-next c number =
    let refused = err_from_is_err_and c.from_residual-in_err-dspm.result c.from_residual-in_err-dspm.ensures.1 in
    rw (refused.1, refused.2)
    (next-refused number geographic_reference c.args.bytes.now c.args.at false c.in_ok-frame.frame c.in_err-dspm.field-0.0
    (sym c.in_ok-frame.ensures.exact) c.in_err-dspm.ensures)

pub returns-clause-next : goal.returns-clause-next
returns-clause-next c number = let read = c.in_ok-dspm in
    next-said number geographic_reference c.args.bytes.now c.args.at false c.in_ok-frame.frame read.dspm (sym c.in_ok-frame.ensures.exact) read.ensures
    ∙ ap (λ n. Ok (read.dspm, records_after c.args.bytes.now (c.args.at + n) false)) (sym c.length.ensures)
