use Rattle.std.proofs.Common.{◌≡◌, ◌++◌, take, map}
use Rattle.text_spec.specs.EditLine.{attribute_item}
use Rattle.text_spec.specs.Lines.{spaced_words}
use Rattle.text_lines.proofs.item.push_attributes.Given as goal

abbrev pub invariant-loop-attr : goal.invariant-loop-attr
invariant-loop-attr l = l.out.items ≡ l.initial.out.items ++ spaced_words (map (attribute_item l.letter) (take l.attr-index l.attrs))
