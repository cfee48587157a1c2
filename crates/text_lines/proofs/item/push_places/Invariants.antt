use Rattle.std.proofs.Common.{◌≡◌, ◌++◌, take, map}
use Rattle.text_spec.specs.EditLine.{place_item}
use Rattle.text_spec.specs.Lines.{spaced_words}
use Rattle.text_lines.proofs.item.push_places.Given as goal

abbrev pub invariant-loop-place : goal.invariant-loop-place
invariant-loop-place l = l.out.items ≡ l.initial.out.items ++ spaced_words (map place_item (take l.place-index l.places))
