use Rattle.std.proofs.Common.{sym}
use Rattle.text_spec.specs.EditLine.{deep_item}
use Rattle.script_text.specs.Widths.{IsSoundingOfWidth}
use Rattle.script_text.proofs.ItemWords.{grown}
use Rattle.script_text.proofs.item.take_sounding.Goals as goal

pub returns-in-Some : goal.returns-in-Some
returns-in-Some c = grown c.push.result 100 deep_item IsSoundingOfWidth c.args.word.now c.in-Some.parts.now _ _ c.sounding_of.result
    c.in-Some.ensures c.sounding_of.ensures.width
    (λ other width spelled. c.sounding_of.ensures.found other width (sym spelled)) c.push.ensures.ok
