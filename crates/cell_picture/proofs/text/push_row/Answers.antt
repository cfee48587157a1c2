use Rattle.std.proofs.Common.{◌++◌, ◌∙◌}
use Rattle.std.specs.Prelude.{codes}
use Rattle.std.specs.Fmt.{decimal}
use Rattle.picture_places.specs.declared.page.TheConstants.{PAGE_LEFT}
use Rattle.cell_picture.specs.Escapes.{escaped}
use Rattle.cell_picture.specs.ShapeText.{text_at}
use Rattle.std.proofs.lemmas.Result.{on_ok_weaker}
use Rattle.cell_picture.proofs.Pushes.{after}
use Rattle.cell_picture.proofs.text.push_row.Goals as goal

pub returns : goal.returns
returns c =
    let out = c.args.out.now.items in
    let row = c.args.row.now in
    let place = text_at (codes "row") PAGE_LEFT row.below in
    let number = decimal row.number in
    let space = codes " " in
    let line = escaped row.line in
    let closing = codes "</text>\n" in
    on_ok_weaker c.push_text-2.result
    (λ last. after out place (number ++ (space ++ (line ++ closing))) c.in_ok-push_text_at.ensures
    (after c.push_text_at.new.out.items number (space ++ (line ++ closing)) c.in_ok-push_plain.ensures
    (after c.push_plain.new.out.items space (line ++ closing) c.in_ok-push_text.ensures.ok
    (after c.push_text.new.out.items line closing (c.in_ok-push_escaped.ensures ∙ (λ i. c.push_text.new.out.items ++ escaped (c.as_slice.ensures i))) last))))
    c.push_text-2.ensures.ok
