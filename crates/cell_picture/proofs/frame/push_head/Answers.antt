use Rattle.std.proofs.Common.{◌++◌}
use Rattle.cell_picture.specs.Picture.{description_text, hatch_text, heading_text, key_text, names_text, opening_text, style_text}
use Rattle.std.proofs.lemmas.Result.{on_ok_weaker}
use Rattle.cell_picture.proofs.Pushes.{after}
use Rattle.cell_picture.proofs.frame.push_head.Goals as goal

pub returns : goal.returns
returns c =
    let out = c.args.out.now.items in
    let opening = opening_text c.args.total in
    let names = names_text c.args.cell.now c.args.total in
    let description = description_text c.args.around in
    let heading = heading_text c.args.cell.now c.args.total in
    let behind_hatch = heading ++ key_text in
    let behind_style = hatch_text ++ behind_hatch in
    on_ok_weaker c.push_key.result
    (λ last. after out opening (names ++ (description ++ (style_text ++ behind_style))) c.in_ok-push_svg.ensures
    (after c.push_svg.new.out.items names (description ++ (style_text ++ behind_style)) c.in_ok-push_names.ensures
    (after c.push_names.new.out.items description (style_text ++ behind_style) c.in_ok-push_description.ensures
    (after c.push_description.new.out.items style_text behind_style c.in_ok-push_style.ensures
    (after c.push_style.new.out.items hatch_text behind_hatch c.in_ok-push_hatch.ensures
    (after c.push_hatch.new.out.items heading key_text c.in_ok-push_heading.ensures last))))))
    c.push_key.ensures
