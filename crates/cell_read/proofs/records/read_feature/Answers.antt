use Rattle.std.proofs.lemmas.Result.{err_from_is_err_and}
use Rattle.cell_read.proofs.KeptRecords.{feature_kept}
use Rattle.cell_read.proofs.records.read_feature.Goals as goal

pub returns-in_err-feature_from : goal.returns-in_err-feature_from
returns-in_err-feature_from c = let refused = err_from_is_err_and c.from_residual-in_err-feature_from.result c.from_residual-in_err-feature_from.ensures.1 in
    rw (refused.1, refused.2)
    (feature_kept c.args.nall c.args.frame.now.fields c.in_ok-values.values _ c.in_ok-values.ensures.values c.in_ok-values.ensures.good
    c.in_err-feature_from.ensures)

pub returns : goal.returns
returns c = feature_kept c.args.nall c.args.frame.now.fields c.in_ok-values.values _ c.in_ok-values.ensures.values c.in_ok-values.ensures.good
    c.in_ok-feature_from.ensures
