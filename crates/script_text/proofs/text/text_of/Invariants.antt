use Rattle.std.proofs.Common.{◌≡◌, ℕ, List, length}
use Rattle.text_spec.specs.EditLine.{text_word}
use Rattle.script_text.specs.Widths.{IsTextOfWidth}
use Rattle.script_text.proofs.Texts.{IsTextLeft}
use Rattle.script_text.proofs.text.text_of.Given as goal

abbrev pub invariant-loop-rest : goal.invariant-loop-rest
invariant-loop-rest l = IsTextOfWidth l.text × ((value : List ℕ) → IsTextOfWidth value → l.part ≡ text_word value → IsTextLeft value l.text l.rest)

abbrev pub decreases-loop-rest : goal.decreases-loop-rest
decreases-loop-rest l = length l.rest
