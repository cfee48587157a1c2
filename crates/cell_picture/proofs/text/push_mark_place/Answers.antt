use Rattle.std.proofs.Common.{◌++◌, ◌∙◌}
use Rattle.std.specs.Prelude.{codes}
use Rattle.cell_picture.specs.ShapeText.{path_text, title_text}
use Rattle.std.proofs.lemmas.Result.{on_ok_weaker}
use Rattle.cell_picture.proofs.Pushes.{after}
use Rattle.cell_picture.proofs.text.push_mark_place.Goals as goal

pub returns : goal.returns
returns c =
    let out = c.args.out.now.items in
    let mark = c.args.mark.now in
    let opening = codes "<g>" in
    let title = title_text mark.line in
    let path = path_text (codes "mark") mark.strokes in
    let closing = codes "/>" in
    on_ok_weaker c.push_text-2.result
    (λ last. after out opening (title ++ (path ++ closing)) c.in_ok-push_text.ensures.ok
    (after c.push_text.new.out.items title (path ++ closing)
    (c.in_ok-push_title.ensures ∙ (λ i. c.push_text.new.out.items ++ title_text (c.as_slice.ensures i)))
    (after c.push_title.new.out.items path closing
    (c.in_ok-push_path.ensures ∙ (λ i. c.push_title.new.out.items ++ path_text (codes "mark") (c.as_slice-2.ensures i))) last)))
    c.push_text-2.ensures.ok
