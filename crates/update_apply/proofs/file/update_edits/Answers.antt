use Rattle.std.proofs.lemmas.Result.{err_from_is_err_and}
use Rattle.update_apply.proofs.Whole.{refusal_is}
use Rattle.update_apply.proofs.file.update_edits.Goals as goal

pub returns-in_err-edits : goal.returns-in_err-edits
returns-in_err-edits c =
    let refused = err_from_is_err_and c.from_residual-in_err-edits.result c.from_residual-in_err-edits.ensures.1 in
    rw (refused.1, refused.2)
    (refusal_is c.args.cell.now c.args.bytes.now c.requires.writable (c.writable_cells_are_readable.ensures c.args.cell.now c.requires.writable)
    c.in_err-edits.field-0.0 c.in_err-edits.ensures)
