use Rattle.std.proofs.Common.{sym}
use Rattle.text_spec.specs.EditLine.{place_item}
use Rattle.script_text.specs.Widths.{IsPlaceOfWidth}
use Rattle.script_text.proofs.ItemWords.{grown}
use Rattle.script_text.proofs.item.take_place.Goals as goal

pub returns-in-Some : goal.returns-in-Some
returns-in-Some c = grown c.push.result 115 place_item IsPlaceOfWidth c.args.word.now c.in-Some.parts.now _ _ c.place_of.result
    c.in-Some.ensures c.place_of.ensures.width
    (λ other width spelled. c.place_of.ensures.found other width (sym spelled)) c.push.ensures.ok
