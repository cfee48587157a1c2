use Rattle.std.proofs.Common.{FitsSigned, w32, IfSome, ap, rules, ◌∙◌}
use Rattle.enc_top.specs.Words.{coordinate_of}
use Rattle.enc_top.proofs.Coordinates.{coordinate_read}
use Rattle.enc_top.proofs.words.coordinate.Goals as goal

pub returns : goal.returns
returns c =
    let fits : IfSome c.read_signed.result (λ z. FitsSigned w32 z) = search rules in
    coordinate_read c.as_bytes.result.now c.read_signed.result c.read_signed.ensures.spelled fits c.read_signed.ensures.found
    ∙ ap coordinate_of c.as_bytes.ensures.value
