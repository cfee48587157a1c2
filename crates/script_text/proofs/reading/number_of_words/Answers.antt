use Rattle.std.proofs.Common.{[], arith}
use Rattle.std.specs.Fmt.{decimal}
use Rattle.script_text.proofs.Frees.{free_number}
use Rattle.script_text.proofs.reading.number_of_words.Goals as goal

pub returns : goal.returns
returns c = λ number fits spelled.
    c.number_of.ensures number fits (c.next_part.ensures.part 32 (decimal number) [] (free_number 32 number (omega arith) fits).free tt spelled).0
