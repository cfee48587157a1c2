use Rattle.std.proofs.Common.{◌∷◌, ◌++◌, refl, arith}
use Rattle.std.specs.Fmt.{decimal}
use Rattle.text_spec.specs.CellText.{kind_word}
use Rattle.script_text.proofs.Words.{free_kind}
use Rattle.script_text.proofs.Frees.{free_number}
use Rattle.script_text.proofs.value.next_name.Goals as goal

pub returns-clause-found : goal.returns-clause-found
returns-clause-found c = λ name rest width begins spelled.
    let id = 32 ∷ (decimal name.id ++ rest) in
    let one = c.next_part.ensures.part 32 (kind_word name.kind) id (free_kind 32 name.kind (omega arith)).free refl spelled in
    let two = c.next_part-2.ensures.part 32 (decimal name.id) rest (free_number 32 name.id (omega arith) width).free begins one.1 in
    (c.name_of.ensures name width one.0 two.0, two.1)
