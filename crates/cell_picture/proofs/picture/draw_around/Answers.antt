use Rattle.std.proofs.Common.{◌≡◌, ◌++◌, ◌∙◌, length, rules}
use Rattle.std.specs.Prelude.{codes}
use Rattle.std.specs.List.{flat_map}
use Rattle.cell_picture.specs.Picture.{frame_text, head_text}
use Rattle.cell_picture.specs.ShapeText.{shape_text}
use Rattle.cell_picture.specs.Shapes.{shapes}
use Rattle.std.proofs.lemmas.Result.{on_ok_weaker}
use Rattle.cell_picture.proofs.Pushes.{after}
use Rattle.cell_picture.proofs.picture.draw_around.Goals as goal

pub returns : goal.returns
returns g c =
    let out = c.args.out.now.items in
    let around = c.args.around in
    let cell = c.args.cell.now in
    let findings = c.args.findings.now in
    let head = head_text around cell (length findings) in
    let frame = frame_text around in
    let drawn = flat_map shape_text (shapes cell around findings) in
    let closing = codes "</svg>\n" in
    let total : c.in_ok-total.total ≡ length findings = search rules in
    on_ok_weaker c.push_text.result
    (λ last. after out head (frame ++ (drawn ++ closing)) (c.in_ok-push_head.ensures ∙ (λ i. out ++ head_text around cell (total i)))
    (after c.push_head.new.out.items frame (drawn ++ closing) c.in_ok-push_frame.ensures
    (after c.push_frame.new.out.items drawn closing c.in_ok-shapes.ensures last)))
    c.push_text.ensures.ok
