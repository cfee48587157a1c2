use Rattle.std.proofs.Common.{◌≡◌, ◌++◌, take}
use Rattle.text_spec.specs.EditLine.{text_word}
use Rattle.text_lines.proofs.item.push_text_word.Given as goal

abbrev pub invariant-loop-byte : goal.invariant-loop-byte
invariant-loop-byte l = l.out.items ≡ l.initial.out.items ++ text_word (take l.byte-index l.text)
