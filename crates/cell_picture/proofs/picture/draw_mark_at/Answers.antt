use Rattle.std.proofs.Common.{◌≡◌, ◌++◌, ◌∷◌, [], ap, sym, ◌∙◌}
use Rattle.std.proofs.lemmas.Result.{on_ok_weaker}
use Rattle.cell_findings.specs.Rows.{line_of}
use Rattle.picture_places.specs.Labels.{field_of, free_field}
use Rattle.cell_picture.specs.ShapeText.{mark_text}
use Rattle.cell_picture.specs.Shapes.{mark_in, taken_with}
use Rattle.cell_picture.proofs.Marks.{mark_here}
use Rattle.cell_picture.proofs.Pushes.{always}
use Rattle.cell_picture.proofs.picture.draw_mark_at.Goals as goal

pub returns-clause-text : goal.returns-clause-text
returns-clause-text c =
    let out = c.args.out.now.items in
    let line = line_of c.args.found in
    let taken = c.args.taken.now.items in
    let here = c.in-Some.anchor in
    let field : c.free_field-field.result ≡ free_field taken (field_of here) =
    c.free_field-field.ensures.value ∙ (λ i. free_field (c.deref.ensures.value i) (c.field_of.ensures.value i)) in
    on_ok_weaker c.push_mark_in.result
    (λ put. put ∙ (λ i. out ++ mark_text (mark_in c.args.number line c.args.strokes here (field i)))
    ∙ ap (λ text. out ++ text) (sym (mark_here c.args.number line c.args.strokes taken c.args.anchor here c.in-Some.is)))
    c.push_mark_in.ensures

pub returns-clause-taken : goal.returns-clause-taken
returns-clause-taken c =
    let taken = c.args.taken.now.items in
    let here = c.in-Some.anchor in
    let field : c.free_field-field.result ≡ free_field taken (field_of here) =
    c.free_field-field.ensures.value ∙ (λ i. free_field (c.deref.ensures.value i) (c.field_of.ensures.value i)) in
    always c.push_mark_in.result
    (c.in_ok-push.ensures.items ∙ (λ i. taken ++ field i ∷ []) ∙ ap (λ held. taken_with taken held) (sym c.in-Some.is))
