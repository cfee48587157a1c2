use Rattle.std.proofs.Common.{◌++◌, ◌∷◌, [], ◌∙◌}
use Rattle.std.specs.Prelude.{codes}
use Rattle.std.specs.Fmt.{decimal}
use Rattle.cell_picture.specs.ShapeText.{path_text, text_at}
use Rattle.std.proofs.lemmas.Result.{on_ok_weaker}
use Rattle.cell_picture.proofs.Pushes.{after}
use Rattle.cell_picture.proofs.text.push_mark_number.Goals as goal

pub returns : goal.returns
returns c =
    let out = c.args.out.now.items in
    let mark = c.args.mark.now in
    let path = path_text (codes "lead") ((mark.anchor ∷ mark.label ∷ []) ∷ []) in
    let middle = codes "/>" in
    let place = text_at (codes "label") mark.label.x mark.label.y in
    let number = decimal mark.number in
    let closing = codes "</text></g>\n" in
    on_ok_weaker c.push_text-2.result
    (λ last. after out path (middle ++ (place ++ (number ++ closing))) c.in_ok-push_one_stroke.ensures
    (after c.push_one_stroke.new.out.items middle (place ++ (number ++ closing)) c.in_ok-push_text.ensures.ok
    (after c.push_text.new.out.items place (number ++ closing)
    (c.in_ok-push_text_at.ensures ∙ (λ i. c.push_text.new.out.items ++ text_at (codes "label") mark.label.x (c.from.ensures i)))
    (after c.push_text_at.new.out.items number closing c.in_ok-push_plain.ensures last))))
    c.push_text-2.ensures.ok
