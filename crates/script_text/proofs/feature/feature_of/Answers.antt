use Rattle.std.proofs.Common.{◌≡◌, ◌∷◌, ◌++◌, refl, arith}
use Rattle.std.specs.Fmt.{decimal}
use Rattle.text_spec.specs.CellText.{kind_word}
use Rattle.text_spec.specs.Lines.{spaced_words}
use Rattle.script_text.proofs.Words.{from_parts}
use Rattle.script_text.proofs.Frees.{feature_items, free_number}
use Rattle.script_text.proofs.Features.{feature_items_are, same_feature}
use Rattle.script_text.proofs.feature.feature_of.Goals as goal

pub returns-clause-found : goal.returns-clause-found
returns-clause-found c = λ feature width spelled.
    let items = spaced_words (feature_items feature) in
    let foid = 32 ∷ (decimal feature.foid.agen ++ (32 ∷ (decimal feature.foid.fidn ++ (32 ∷ (decimal feature.foid.fids ++ items))))) in
    let objl = 32 ∷ (decimal feature.objl ++ foid) in
    let grup = 32 ∷ (decimal feature.grup ++ objl) in
    let prim = 32 ∷ (decimal feature.prim ++ grup) in
    let rver = 32 ∷ (decimal feature.rver ++ prim) in
    let text : c.args.words.now ≡ 32 ∷ (kind_word feature.name.kind ++ (32 ∷ (decimal feature.name.id ++ rver))) = spelled in
    let name = c.next_name.ensures.found feature.name rver width.name refl text in
    let one = c.next_part.ensures.part 32 (decimal feature.rver) prim
    (free_number 32 feature.rver (omega arith) (omega (arith, width.rver))).free refl name.1 in
    let two = c.next_part-2.ensures.part 32 (decimal feature.prim) grup
    (free_number 32 feature.prim (omega arith) (omega (arith, width.prim))).free refl one.1 in
    let three = c.next_part-3.ensures.part 32 (decimal feature.grup) objl
    (free_number 32 feature.grup (omega arith) (omega (arith, width.grup))).free refl two.1 in
    let four = c.next_part-4.ensures.part 32 (decimal feature.objl) foid
    (free_number 32 feature.objl (omega arith) (omega (arith, width.objl))).free refl three.1 in
    let identity = c.identity_of_words.ensures.found feature.foid items width.foid (from_parts 32 (feature_items feature)) four.1 in
    let lists = feature_items_are feature _ _ width c.in_ok-items.ensures identity.1 in
    same_feature _ _ _ _ _ _ _ _ _ _ feature name.0 (c.byte_of.ensures feature.prim width.prim two.0)
    (c.byte_of-2.ensures feature.grup width.grup three.0) (c.short_of.ensures feature.objl width.objl four.0)
    (c.short_of-2.ensures feature.rver width.rver one.0)
    identity.0 lists.attf lists.natf lists.partners lists.places
