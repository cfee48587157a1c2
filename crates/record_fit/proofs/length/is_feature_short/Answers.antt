use Rattle.std.proofs.Common.{◌∙◌, ◌*◌, ap}
use Rattle.record_fit.specs.Lengths.{saturated, field_length}
use Rattle.record_fit.proofs.WrittenLengths.{feature_is_short}
use Rattle.record_fit.proofs.length.is_feature_short.Goals as goal

pub returns : goal.returns
returns c =
    c.is_within_limit.ensures
    ∙ feature_is_short c.args.nall c.args.feature.now c.attributes_length.result c.attributes_length-2.result c.partners_length.result
    c.fixed_rows_length.result
    (cc) (cc) (cc)
    (c.fixed_rows_length.ensures ∙ ap (λ n. saturated (field_length (n * 8) 1)) c.len.ensures)
