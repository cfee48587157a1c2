use Rattle.std.proofs.Common.{◌++◌, ap, sym, ◌∙◌}
use Rattle.std.specs.List.{flat_map}
use Rattle.std.proofs.lemmas.Result.{on_ok_weaker}
use Rattle.cell_picture.specs.ShapeText.{shape_text}
use Rattle.cell_picture.specs.Shapes.{drawing_order, finding_shapes, record_shapes, rows_from}
use Rattle.cell_picture.proofs.Marks.{shapes_text}
use Rattle.cell_picture.proofs.Pushes.{two_more}
use Rattle.cell_picture.proofs.picture.Scene.shapes.Goals as goal

pub returns : goal.returns
returns g c =
    let out = c.args.out.now.items in
    let around = c.args.self.now.view.around in
    let cell = c.args.cell.now in
    let seen = c.args.self.now.view.look.now in
    let findings = c.args.findings.now in
    on_ok_weaker c.draw_rows.result
    (λ last. two_more out (flat_map shape_text (flat_map (record_shapes seen around) (drawing_order cell)))
    (flat_map shape_text (finding_shapes seen around findings)) (flat_map shape_text (rows_from 1 findings))
    c.in_ok-all_records.ensures c.in_ok-findings.ensures last
    ∙ (λ i. out ++ (flat_map shape_text (flat_map (record_shapes (c.requires i) around) (drawing_order cell))
    ++ (flat_map shape_text (finding_shapes (c.requires i) around findings) ++ flat_map shape_text (rows_from 1 findings))))
    ∙ ap (λ text. out ++ text) (sym (shapes_text cell around findings)))
    c.draw_rows.ensures
