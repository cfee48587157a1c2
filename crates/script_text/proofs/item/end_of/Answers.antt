use Rattle.std.proofs.Common.{◌≡◌, ℕ, List, [], ◌∷◌, ◌++◌, refl, arith}
use Rattle.std.specs.Fmt.{decimal}
use Rattle.std.specs.List.{flat_map}
use Rattle.text_spec.specs.CellText.{kind_word}
use Rattle.script_text.proofs.Words.{free_kind, free_of_colons, same_end}
use Rattle.script_text.proofs.item.end_of.Goals as goal

pub returns-clause-found : goal.returns-clause-found
returns-clause-found c = λ end width spelled.
    let pointer = width.pointer in
    let kind = kind_word end.to.kind in
    let rest : List (List ℕ) → List ℕ = flat_map (λ (part : List ℕ). 58 ∷ part) in
    let mask = decimal end.mask ∷ [] in let topi = decimal end.topi ∷ mask in let usag = decimal end.usag ∷ topi in let ornt = decimal end.ornt ∷ usag in
    let parts : c.args.parts.now ≡ 61 ∷ (kind ++ rest (decimal end.to.id ∷ ornt)) = cc in
    let one = c.next_part.ensures.part 61 kind (rest (decimal end.to.id ∷ ornt)) (free_kind 58 end.to.kind (omega arith)).free refl parts in
    let two = c.next_part-2.ensures.part 58 (decimal end.to.id) (rest ornt) (free_of_colons end.to.id pointer.to).free refl one.1 in
    let three = c.next_part-3.ensures.part 58 (decimal end.ornt) (rest usag) (free_of_colons end.ornt (omega (arith, pointer.ornt))).free refl two.1 in
    let four = c.next_part-4.ensures.part 58 (decimal end.usag) (rest topi) (free_of_colons end.usag (omega (arith, pointer.usag))).free refl three.1 in
    let five = c.next_part-5.ensures.part 58 (decimal end.topi) (rest mask) (free_of_colons end.topi (omega (arith, width.topi))).free refl four.1 in
    let six = c.next_part-6.ensures.part 58 (decimal end.mask) [] (free_of_colons end.mask (omega (arith, pointer.mask))).free tt five.1 in
    same_end _ _ _ _ _ end (c.name_of.ensures end.to pointer.to one.0 two.0) (c.byte_of.ensures end.ornt pointer.ornt three.0)
    (c.byte_of-2.ensures end.usag pointer.usag four.0) (c.byte_of-3.ensures end.topi width.topi five.0) (c.byte_of-4.ensures end.mask pointer.mask six.0)
