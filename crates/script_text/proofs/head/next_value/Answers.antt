use Rattle.std.proofs.Common.{◌∷◌, ◌++◌, refl}
use Rattle.script_text.proofs.head.next_value.Goals as goal

pub returns : goal.returns
returns c = λ name value rest name_free value_free begins spelled.
    let behind = c.next_part.ensures.part 32 name (61 ∷ (value ++ rest)) name_free refl spelled in
    c.next_part-2.ensures.part 61 value rest value_free begins behind.1
