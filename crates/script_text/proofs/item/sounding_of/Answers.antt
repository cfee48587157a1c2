use Rattle.std.proofs.Common.{◌≡◌, ℤ, [], ◌∷◌, ◌++◌, refl, ap, ◌∙◌, arith, w32, FitsSigned}
use Rattle.std.proofs.lemmas.Int.{to_z-of_z}
use mir.Val.{to_z, of_z}
use Rattle.std.specs.Fmt.{signed_decimal}
use Rattle.script_text.proofs.Words.{free_signed, same_sounding}
use Rattle.script_text.proofs.item.sounding_of.Goals as goal

pub returns-clause-found : goal.returns-clause-found
returns-clause-found c = λ sounding width spelled.
    let last = 44 ∷ (signed_decimal sounding.2 ++ []) in
    let rest = 44 ∷ (signed_decimal sounding.1 ++ last) in
    let number = λ (z : ℤ) (fits : FitsSigned w32 z). free_signed 44 z (λ d below here. omega arith) (λ here. omega arith) fits in
    let parts : c.args.parts.now ≡ 61 ∷ (signed_decimal sounding.0 ++ rest) = cc in
    let one = c.next_part.ensures.part 61 (signed_decimal sounding.0) rest (number sounding.0 width.latitude).free refl parts in
    let two = c.next_part-2.ensures.part 44 (signed_decimal sounding.1) last (number sounding.1 width.longitude).free refl one.1 in
    let three = c.next_part-3.ensures.part 44 (signed_decimal sounding.2) [] (number sounding.2 width.depth).free tt two.1 in
    let latitude = c.coordinate_of.ensures sounding.0 width.latitude one.0 in
    let longitude = c.coordinate_of-2.ensures sounding.1 width.longitude two.0 in
    let depth = c.coordinate_of-3.ensures sounding.2 width.depth three.0 in
    same_sounding _ _ _ sounding (ap (λ (z : ℤ). to_z w32 (of_z w32 z)) latitude ∙ to_z-of_z w32 sounding.0 width.latitude)
    (ap (λ (z : ℤ). to_z w32 (of_z w32 z)) longitude ∙ to_z-of_z w32 sounding.1 width.longitude)
    (ap (λ (z : ℤ). to_z w32 (of_z w32 z)) depth ∙ to_z-of_z w32 sounding.2 width.depth)
