use Rattle.std.proofs.lemmas.Result.{err_from_is_err_and}
use Rattle.cell_read.proofs.KeptRecords.{vector_kept}
use Rattle.cell_read.proofs.records.read_vector.Goals as goal

pub returns-in_err-vector_from : goal.returns-in_err-vector_from
returns-in_err-vector_from c nall = let refused = err_from_is_err_and c.from_residual-in_err-vector_from.result c.from_residual-in_err-vector_from.ensures.1 in
    rw (refused.1, refused.2)
    (vector_kept nall c.args.frame.now.fields c.in_ok-values.values _ c.in_ok-values.ensures.values c.in_ok-values.ensures.good
    c.in_err-vector_from.ensures)

pub returns : goal.returns
returns c nall = vector_kept nall c.args.frame.now.fields c.in_ok-values.values _ c.in_ok-values.ensures.values c.in_ok-values.ensures.good
    c.in_ok-vector_from.ensures
