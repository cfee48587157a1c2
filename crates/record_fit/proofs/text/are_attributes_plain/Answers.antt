use Rattle.std.proofs.Common.{◌∙◌, sym, ap}
use Rattle.std.specs.List.{list_all}
use Rattle.std.proofs.lemmas.List.{take_all}
use Rattle.std.proofs.lemmas.List.Folds.{list_all_at}
use Rattle.s57_types.specs.Subfield.{is_plain}
use Rattle.s57_types.specs.FieldRows.{level_text}
use Rattle.s57_types.specs.declared.record.Attr.{Attr}
use Rattle.record_fit.proofs.PlainTexts.{attribute_texts_plain}
use Rattle.record_fit.proofs.text.are_attributes_plain.Goals as goal

pub returns-then-not-is_attribute_plain : goal.returns-then-not-is_attribute_plain
returns-then-not-is_attribute_plain c =
    let is_plain_attribute = λ (a : Attr). is_plain (level_text c.args.level a.value) in
    let bad = ap is_plain_attribute (sym c.attr-item.is) ∙ sym c.is_attribute_plain.ensures ∙ c.if-not-is_attribute_plain.true in
    sym (attribute_texts_plain c.args.level c.args.attrs.now
    ∙ list_all_at is_plain_attribute c.args.attrs.now c.loop-attr.attr-index c.attr-item.result c.loop-attr-test.true bad)

pub returns : goal.returns
returns c =
    let is_plain_attribute = λ (a : Attr). is_plain (level_text c.args.level a.value) in
    sym (attribute_texts_plain c.args.level c.args.attrs.now
    ∙ ap (list_all is_plain_attribute) (sym (take_all c.loop-attr.attr-index c.args.attrs.now c.loop-attr-test.false)) ∙ c.loop-attr.invariant)
