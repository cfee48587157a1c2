use Rattle.std.proofs.Common.{◌≡◌, ℕ, List, [], ◌∷◌, ◌++◌, refl, arith}
use Rattle.std.specs.Fmt.{decimal}
use Rattle.std.specs.List.{flat_map}
use Rattle.text_spec.specs.CellText.{kind_word}
use Rattle.script_text.proofs.Words.{free_kind, free_of_colons, same_place}
use Rattle.script_text.proofs.item.place_of.Goals as goal

pub returns-clause-found : goal.returns-clause-found
returns-clause-found c = λ place width spelled.
    let kind = kind_word place.to.kind in
    let rest : List (List ℕ) → List ℕ = flat_map (λ (part : List ℕ). 58 ∷ part) in
    let mask = decimal place.mask ∷ [] in let usag = decimal place.usag ∷ mask in let ornt = decimal place.ornt ∷ usag in
    let parts : c.args.parts.now ≡ 61 ∷ (kind ++ rest (decimal place.to.id ∷ ornt)) = cc in
    let one = c.next_part.ensures.part 61 kind (rest (decimal place.to.id ∷ ornt)) (free_kind 58 place.to.kind (omega arith)).free refl parts in
    let two = c.next_part-2.ensures.part 58 (decimal place.to.id) (rest ornt) (free_of_colons place.to.id width.to).free refl one.1 in
    let three = c.next_part-3.ensures.part 58 (decimal place.ornt) (rest usag) (free_of_colons place.ornt (omega (arith, width.ornt))).free refl two.1 in
    let four = c.next_part-4.ensures.part 58 (decimal place.usag) (rest mask) (free_of_colons place.usag (omega (arith, width.usag))).free refl three.1 in
    let five = c.next_part-5.ensures.part 58 (decimal place.mask) [] (free_of_colons place.mask (omega (arith, width.mask))).free tt four.1 in
    same_place _ _ _ _ place (c.name_of.ensures place.to width.to one.0 two.0) (c.byte_of.ensures place.ornt width.ornt three.0)
    (c.byte_of-2.ensures place.usag width.usag four.0) (c.byte_of-3.ensures place.mask width.mask five.0)
