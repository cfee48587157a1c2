use Rattle.std.proofs.Common.{◌≡◌, ◌++◌, take, map}
use Rattle.text_spec.specs.EditLine.{end_item}
use Rattle.text_spec.specs.Lines.{spaced_words}
use Rattle.text_lines.proofs.item.push_ends.Given as goal

abbrev pub invariant-loop-end : goal.invariant-loop-end
invariant-loop-end l = l.out.items ≡ l.initial.out.items ++ spaced_words (map end_item (take l.end-index l.ends))
