use Rattle.std.proofs.Common.{rules, sym, ◌∙◌, w32}
use Rattle.std.proofs.lemmas.Fmt.{parse-signed_decimal}
use Rattle.text_lines.proofs.Numbers.{mag_fits, utf8_signed}
use Rattle.text_lines.proofs.number.parse_signed.Goals as goal

pub returns-in-Ok : goal.returns-in-Ok
returns-in-Ok c = λ number fits spelled.
    let parsed = parse-signed_decimal w32 number c.in-Ok.text.now c.parse.result fits (mag_fits number fits)
    (c.in-Ok.ensures.cases.0 ∙ sym spelled) c.parse.ensures.value.0 in
    search (rules, parsed, c.ok.ensures.value)

pub returns-in-Err : goal.returns-in-Err
returns-in-Err c = λ number fits spelled. absurd (c.in-Err.ensures.cases.0 (utf8_signed number c.args.word.now fits spelled))
