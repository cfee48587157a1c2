use Rattle.std.proofs.Common.{◌≡◌, ℤ, [], ◌∷◌, ◌++◌, refl, ap, ◌∙◌, arith, w32, FitsSigned}
use Rattle.std.proofs.lemmas.Int.{to_z-of_z}
use mir.Val.{to_z, of_z}
use Rattle.std.specs.Fmt.{signed_decimal}
use Rattle.script_text.proofs.Words.{free_signed, same_point}
use Rattle.script_text.proofs.item.point_of.Goals as goal

pub returns-clause-found : goal.returns-clause-found
returns-clause-found c = λ point width spelled.
    let rest = 44 ∷ (signed_decimal point.1 ++ []) in
    let number = λ (z : ℤ) (fits : FitsSigned w32 z). free_signed 44 z (λ d below here. omega arith) (λ here. omega arith) fits in
    let parts : c.args.parts.now ≡ 61 ∷ (signed_decimal point.0 ++ rest) = cc in
    let one = c.next_part.ensures.part 61 (signed_decimal point.0) rest (number point.0 width.latitude).free refl parts in
    let two = c.next_part-2.ensures.part 44 (signed_decimal point.1) [] (number point.1 width.longitude).free tt one.1 in
    let latitude = c.coordinate_of.ensures point.0 width.latitude one.0 in
    let longitude = c.coordinate_of-2.ensures point.1 width.longitude two.0 in
    same_point _ _ point (ap (λ (z : ℤ). to_z w32 (of_z w32 z)) latitude ∙ to_z-of_z w32 point.0 width.latitude)
    (ap (λ (z : ℤ). to_z w32 (of_z w32 z)) longitude ∙ to_z-of_z w32 point.1 width.longitude)
