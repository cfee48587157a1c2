use Rattle.std.proofs.Common.{◌∙◌, sym, ap}
use Rattle.std.specs.List.{list_all}
use Rattle.std.proofs.lemmas.List.{take_all}
use Rattle.std.proofs.lemmas.List.Folds.{list_all_at}
use Rattle.s57_types.specs.Subfield.{is_plain, text_of}
use Rattle.s57_types.specs.declared.record.Partner.{Partner}
use Rattle.record_fit.proofs.PlainTexts.{partner_texts_plain}
use Rattle.record_fit.proofs.text.are_partners_plain.Goals as goal

pub returns-then-not-is_partner_plain : goal.returns-then-not-is_partner_plain
returns-then-not-is_partner_plain c =
    let is_plain_partner = λ (p : Partner). is_plain (text_of p.comt) in
    let bad = ap is_plain_partner (sym c.partner-item.is) ∙ sym c.is_partner_plain.ensures ∙ c.if-not-is_partner_plain.true in
    sym (partner_texts_plain c.args.partners.now ∙ list_all_at is_plain_partner c.args.partners.now c.loop-partner.partner-index
    c.partner-item.result c.loop-partner-test.true bad)

pub returns : goal.returns
returns c =
    let is_plain_partner = λ (p : Partner). is_plain (text_of p.comt) in
    sym (partner_texts_plain c.args.partners.now
    ∙ ap (list_all is_plain_partner) (sym (take_all c.loop-partner.partner-index c.args.partners.now c.loop-partner-test.false)) ∙ c.loop-partner.invariant)
