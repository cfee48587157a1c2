use Rattle.std.proofs.Common.{◌≡◌, ◌∷◌, ◌++◌, refl, arith}
use Rattle.std.specs.Fmt.{decimal}
use Rattle.text_spec.specs.CellText.{kind_word}
use Rattle.text_spec.specs.Lines.{spaced_words}
use Rattle.script_text.proofs.Words.{from_parts}
use Rattle.script_text.proofs.Frees.{vector_items, free_number}
use Rattle.script_text.proofs.Vectors.{vector_items_are, same_vector}
use Rattle.script_text.proofs.vector.vector_of.Goals as goal

pub returns-clause-found : goal.returns-clause-found
returns-clause-found c = λ vector width spelled.
    let items = spaced_words (vector_items vector) in
    let rver = 32 ∷ (decimal vector.rver ++ items) in
    let text : c.args.words.now ≡ 32 ∷ (kind_word vector.name.kind ++ (32 ∷ (decimal vector.name.id ++ rver))) = spelled in
    let name = c.next_name.ensures.found vector.name rver width.name refl text in
    let version = c.next_part.ensures.part 32 (decimal vector.rver) items
    (free_number 32 vector.rver (omega arith) (omega (arith, width.rver))).free (from_parts 32 (vector_items vector)) name.1 in
    let lists = vector_items_are vector _ _ width c.in_ok-items.ensures version.1 in
    same_vector _ _ _ _ _ _ vector name.0 (c.short_of.ensures vector.rver width.rver version.0)
    lists.attrs lists.ends lists.plane lists.deep
