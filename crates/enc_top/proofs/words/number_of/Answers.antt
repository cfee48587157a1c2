use Rattle.std.proofs.Common.{◌<◌, ◌^◌, IfSome, ap, rules, ◌∙◌}
use Rattle.enc_top.specs.Words.{number_in}
use Rattle.enc_top.proofs.Numbers.{number_read}
use Rattle.enc_top.proofs.words.number_of.Goals as goal

pub returns : goal.returns
returns c =
    let small : IfSome c.read_unsigned.result (λ n. n < 2 ^ 32) = search rules in
    number_read c.as_bytes.result.now c.read_unsigned.result c.read_unsigned.ensures.spelled small c.read_unsigned.ensures.found
    ∙ ap number_in c.as_bytes.ensures.value
