use Rattle.std.proofs.Common.{◌≡◌, ◌<◌, ◌^◌, ℕ, List, [], ◌∷◌, ◌++◌, refl, ap, ◌∙◌, arith}
use Rattle.std.specs.Fmt.{decimal}
use Rattle.std.specs.List.{flat_map}
use Rattle.std.proofs.lemmas.List.{append-nil}
use Rattle.text_spec.specs.EditLine.{text_word}
use Rattle.script_text.proofs.Words.{free_decimal, same_partner}
use Rattle.script_text.proofs.item.partner_of.Goals as goal

pub returns-clause-found : goal.returns-clause-found
returns-clause-found c = λ partner width spelled.
    let rest : List (List ℕ) → List ℕ = flat_map (λ (part : List ℕ). 58 ∷ part) in
    let comt = text_word partner.comt ∷ [] in
    let rind = decimal partner.rind ∷ comt in
    let fids = decimal partner.to.fids ∷ rind in
    let fidn = decimal partner.to.fidn ∷ fids in
    let number = λ (n : ℕ) (fits : n < 2 ^ 32). free_decimal 58 n (λ d below here. omega arith) (omega arith) in
    let parts : c.args.parts.now ≡ 61 ∷ (decimal partner.to.agen ++ rest fidn) = cc in
    let one = c.next_part.ensures.part 61 (decimal partner.to.agen) (rest fidn) (number partner.to.agen (omega (arith, width.to.agen))).free refl parts in
    let two = c.next_part-2.ensures.part 58 (decimal partner.to.fidn) (rest fids) (number partner.to.fidn width.to.fidn).free refl one.1 in
    let three = c.next_part-3.ensures.part 58 (decimal partner.to.fids) (rest rind) (number partner.to.fids (omega (arith, width.to.fids))).free refl two.1 in
    let four = c.next_part-4.ensures.part 58 (decimal partner.rind) (rest comt) (number partner.rind (omega (arith, width.rind))).free refl three.1 in
    same_partner _ _ _ partner (c.identity_of.ensures.found partner.to width.to one.0 two.0 three.0) (c.byte_of.ensures partner.rind width.rind four.0)
    (c.in_ok-comt.ensures.found partner.comt width.comt (four.1 ∙ ap (λ t. 58 ∷ t) (append-nil (text_word partner.comt))))
