use Rattle.std.proofs.Common.{arith, rules, sym, ◌∙◌}
use Rattle.std.proofs.lemmas.Fmt.{parse-decimal}
use Rattle.text_lines.proofs.Numbers.{utf8_unsigned}
use Rattle.text_lines.proofs.number.parse_unsigned.Goals as goal

pub returns-in-Ok : goal.returns-in-Ok
returns-in-Ok c = λ number fits spelled.
    let parsed = parse-decimal 32 number c.in-Ok.text.now c.parse.result fits (omega (arith, fits))
    (c.in-Ok.ensures.cases.0 ∙ sym spelled) c.parse.ensures.value.0 in
    search (rules, parsed, c.ok.ensures.value)

pub returns-in-Err : goal.returns-in-Err
returns-in-Err c = λ number fits spelled. absurd (c.in-Err.ensures.cases.0 (utf8_unsigned number c.args.word.now fits spelled))
