use Rattle.std.proofs.Common.{sym}
use Rattle.text_spec.specs.EditLine.{plane_item}
use Rattle.script_text.specs.Widths.{IsPointOfWidth}
use Rattle.script_text.proofs.ItemWords.{grown}
use Rattle.script_text.proofs.item.take_point.Goals as goal

pub returns-in-Some : goal.returns-in-Some
returns-in-Some c = grown c.push.result 112 plane_item IsPointOfWidth c.args.word.now c.in-Some.parts.now _ _ c.point_of.result
    c.in-Some.ensures c.point_of.ensures.width
    (λ other width spelled. c.point_of.ensures.found other width (sym spelled)) c.push.ensures.ok
