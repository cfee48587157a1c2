use Rattle.std.proofs.Common.{arith}
use Rattle.text_spec.specs.CellText.{kind_word}
use Rattle.script_text.proofs.Words.{free_kind}
use Rattle.script_text.proofs.value.kind_of_words.Goals as goal

pub returns : goal.returns
returns c = λ kind rest begins spelled.
    c.kind_of.ensures kind (c.next_part.ensures.part 32 (kind_word kind) rest (free_kind 32 kind (omega arith)).free begins spelled).0
