use Rattle.std.proofs.Common.{◌∷◌, ◌++◌, refl, arith}
use Rattle.std.specs.Fmt.{decimal}
use Rattle.script_text.proofs.Frees.{free_number}
use Rattle.script_text.proofs.feature.identity_of_words.Goals as goal

pub returns-clause-found : goal.returns-clause-found
returns-clause-found c = λ identity rest width begins spelled.
    let fids = 32 ∷ (decimal identity.fids ++ rest) in
    let fidn = 32 ∷ (decimal identity.fidn ++ fids) in
    let one = c.next_part.ensures.part 32 (decimal identity.agen) fidn
    (free_number 32 identity.agen (omega arith) (omega (arith, width.agen))).free refl spelled in
    let two = c.next_part-2.ensures.part 32 (decimal identity.fidn) fids (free_number 32 identity.fidn (omega arith) width.fidn).free refl one.1 in
    let three = c.next_part-3.ensures.part 32 (decimal identity.fids) rest
    (free_number 32 identity.fids (omega arith) (omega (arith, width.fids))).free begins two.1 in
    (c.identity_of.ensures.found identity width one.0 two.0 three.0, three.1)
