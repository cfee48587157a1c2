use Rattle.std.proofs.Common.{◌≡◌, ◌++◌, take, map}
use Rattle.text_spec.specs.EditLine.{deep_item}
use Rattle.text_spec.specs.Lines.{spaced_words}
use Rattle.text_lines.proofs.item.push_deep.Given as goal

abbrev pub invariant-loop-sounding : goal.invariant-loop-sounding
invariant-loop-sounding l = l.out.items ≡ l.initial.out.items ++ spaced_words (map deep_item (take l.sounding-index l.soundings))
