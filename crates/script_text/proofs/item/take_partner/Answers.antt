use Rattle.std.proofs.Common.{sym}
use Rattle.text_spec.specs.EditLine.{partner_item}
use Rattle.script_text.specs.Widths.{IsPartnerOfWidth}
use Rattle.script_text.proofs.ItemWords.{grown}
use Rattle.script_text.proofs.item.take_partner.Goals as goal

pub returns-in_ok-partner_of-in-Some : goal.returns-in_ok-partner_of-in-Some
returns-in_ok-partner_of-in-Some c =
    let read = c.in_ok-partner_of-in-Some in
    grown c.push.result 102 partner_item IsPartnerOfWidth c.args.word.now c.in-Some.parts.now _ _ read.field-0 c.in-Some.ensures read.ensures.width
    (λ other width spelled. read.ensures.found other width (sym spelled)) c.push.ensures.ok
