use Rattle.std.proofs.Common.{◌+◌, false, Ok, sym, ap, ◌∙◌, subst}
use Rattle.std.proofs.lemmas.Result.{err_from_is_err_and}
use Rattle.file_spec.specs.DecodedCell.{with_following}
use Rattle.file_spec.specs.FileRecords.{records_after}
use Rattle.cell_read.specs.Gives.{IsFault}
use Rattle.cell_read.specs.RecordsFrom.{record_said}
use Rattle.cell_read.proofs.FileSteps.{following-frame_fault, following-refused, following-not_added, following-added}
use Rattle.cell_read.proofs.KeptRecords.{kept_of, kept_is_listed, same_following, whole_following}
use Rattle.cell_read.proofs.file.read_next.Goals as goal

pub add_record-requires-clause-listed : goal.add_record-requires-clause-listed
add_record-requires-clause-listed c = kept_is_listed c.args.reading.now.cell.head.nall c.in_ok-frame.frame.fields c.in_ok-rec.rec
    c.in_ok-rec.ensures

pub returns-in_err-frame-clause-fault : goal.returns-in_err-frame-clause-fault
returns-in_err-frame-clause-fault c number =
    following-frame_fault number c.args.reading.now.cell c.args.bytes.now c.args.at _ c.from_residual.result c.from_residual.ensures.1
    c.requires.before_end (sym c.in_err-frame.ensures.exact)

pub returns-in_err-rec-clause-fault : goal.returns-in_err-rec-clause-fault
returns-in_err-rec-clause-fault c number = let refused = err_from_is_err_and c.from_residual-in_err-rec.result c.from_residual-in_err-rec.ensures.1 in
    rw (refused.1, refused.2)
    (following-refused number c.args.reading.now.cell c.args.bytes.now c.args.at c.in_ok-frame.frame c.in_err-rec.field-0.0 c.requires.before_end
    (sym c.in_ok-frame.ensures.exact) c.in_err-rec.ensures)

pub returns-in_err-add_record-clause-fault : goal.returns-in_err-add_record-clause-fault
returns-in_err-add_record-clause-fault c number = let cell = c.args.reading.now.cell in let rec = c.in_ok-rec.rec in
    let frame = c.in_ok-frame.frame in let refusal = c.in_err-add_record.field-0.0 in
    let kept = kept_of cell.head.nall rec (record_said cell.head.nall frame.fields) c.in_ok-rec.ensures in
    let refused = err_from_is_err_and c.from_residual-in_err-add_record.result c.from_residual-in_err-add_record.ensures.1 in
    rw (refused.1, refused.2)
    (following-not_added number cell c.args.bytes.now c.args.at frame kept.whole refusal c.requires.before_end (sym c.in_ok-frame.ensures.exact) kept.is
    (subst (λ fault. IsFault refusal fault) (same_following cell rec kept.whole kept.of_it) c.in_err-add_record.ensures.fault))

pub returns-clause-step : goal.returns-clause-step
returns-clause-step c number = let bytes = c.args.bytes.now in let at = c.args.at in let frame = c.in_ok-frame.frame in
    let cell = c.args.reading.now.cell in let rec = c.in_ok-rec.rec in
    let kept = kept_of cell.head.nall rec (record_said cell.head.nall frame.fields) c.in_ok-rec.ensures in
    following-added number cell bytes at frame rec c.requires.before_end (sym c.in_ok-frame.ensures.exact)
    (kept.is ∙ ap Ok (sym (whole_following cell rec kept.whole kept.of_it c.in_ok-add_record.ensures.good))) c.in_ok-add_record.ensures.good
    ∙ ap (λ cell. with_following (number + 1) cell (records_after bytes (at + frame.length) false)) (sym c.in_ok-add_record.ensures.cell)
    ∙ ap (λ n. with_following (number + 1) c.add_record.new.reading.cell (records_after bytes (at + n) false)) (sym c.length.ensures)
