use Rattle.std.proofs.Common.{◌≡◌, ◌++◌, take, map}
use Rattle.text_spec.specs.EditLine.{partner_item}
use Rattle.text_spec.specs.Lines.{spaced_words}
use Rattle.text_lines.proofs.item.push_partners.Given as goal

abbrev pub invariant-loop-partner : goal.invariant-loop-partner
invariant-loop-partner l = l.out.items ≡ l.initial.out.items ++ spaced_words (map partner_item (take l.partner-index l.partners))
