use Rattle.std.proofs.Common.{sym}
use Rattle.text_spec.specs.EditLine.{end_item}
use Rattle.script_text.specs.Widths.{IsEndOfWidth}
use Rattle.script_text.proofs.ItemWords.{grown}
use Rattle.script_text.proofs.item.take_end.Goals as goal

pub returns-in-Some : goal.returns-in-Some
returns-in-Some c = grown c.push.result 101 end_item IsEndOfWidth c.args.word.now c.in-Some.parts.now _ _ c.end_of.result
    c.in-Some.ensures c.end_of.ensures.width
    (λ other width spelled. c.end_of.ensures.found other width (sym spelled)) c.push.ensures.ok
