use Rattle.std.proofs.Common.{[], ◌∷◌, drop, sym, ap}
use Rattle.text_spec.specs.EditLine.{attribute_item}
use Rattle.script_text.specs.Widths.{IsAttributeOfWidth}
use Rattle.script_text.proofs.ItemWords.{grown}
use Rattle.script_text.proofs.item.take_attribute.Goals as goal

pub returns-in_ok-attribute_of-in-Some : goal.returns-in_ok-attribute_of-in-Some
returns-in_ok-attribute_of-in-Some c =
    let read = c.in_ok-attribute_of-in-Some in
    grown c.push.result c.args.letter (attribute_item (c.args.letter ∷ [])) IsAttributeOfWidth c.args.word.now c.in-Some.parts.now
    _ _ read.field-0 c.in-Some.ensures read.ensures.width
    (λ other width spelled. read.ensures.found other width (sym (ap (drop 1) spelled))) c.push.ensures.ok
