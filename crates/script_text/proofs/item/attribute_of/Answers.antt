use Rattle.std.proofs.Common.{[], ◌∷◌, ◌++◌, refl, sym, ap, ◌∙◌, arith}
use Rattle.std.specs.Fmt.{decimal}
use Rattle.std.proofs.lemmas.List.{append-nil}
use Rattle.text_spec.specs.EditLine.{text_word}
use Rattle.script_text.proofs.Words.{free_decimal, same_attribute}
use Rattle.script_text.proofs.item.attribute_of.Goals as goal

pub returns-clause-found : goal.returns-clause-found
returns-clause-found c = λ attr width spelled.
    let text = 58 ∷ (text_word attr.value ++ []) in
    let one = c.next_part.ensures.part 61 (decimal attr.code) text
    (free_decimal 58 attr.code (λ d below here. omega arith) (omega (arith, width.code))).free refl (sym spelled) in
    same_attribute _ _ attr (c.short_of.ensures attr.code width.code one.0)
    (c.in_ok-value.ensures.found attr.value width.value (one.1 ∙ ap (λ t. 58 ∷ t) (append-nil (text_word attr.value))))
