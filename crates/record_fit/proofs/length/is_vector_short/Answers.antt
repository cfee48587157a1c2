use Rattle.std.proofs.Common.{◌∙◌, ◌*◌, ap}
use Rattle.record_fit.specs.Lengths.{saturated, field_length}
use Rattle.record_fit.proofs.WrittenLengths.{vector_is_short}
use Rattle.record_fit.proofs.length.is_vector_short.Goals as goal

pub returns : goal.returns
returns c nall =
    c.is_within_limit.ensures
    ∙ vector_is_short nall c.args.vector.now c.attributes_length.result c.fixed_rows_length.result c.fixed_rows_length-2.result c.fixed_rows_length-3.result
    (cc)
    (c.fixed_rows_length.ensures ∙ ap (λ n. saturated (field_length (n * 9) 1)) c.len.ensures)
    (c.fixed_rows_length-2.ensures ∙ ap (λ n. saturated (field_length (n * 8) 1)) c.len-2.ensures)
    (c.fixed_rows_length-3.ensures ∙ ap (λ n. saturated (field_length (n * 12) 1)) c.len-3.ensures)
