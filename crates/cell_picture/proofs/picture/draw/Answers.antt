use Rattle.std.proofs.Common.{◌++◌, ◌∙◌}
use Rattle.std.proofs.lemmas.Result.{on_ok_weaker}
use Rattle.cell_picture.specs.Picture.{picture, picture_around}
use Rattle.cell_picture.proofs.picture.draw.Goals as goal

pub returns : goal.returns
unfolding picture
returns g c =
    on_ok_weaker c.draw_around.result
    (λ put. put ∙ (λ i. c.args.out.now.items ++ picture_around (c.in_ok-around.ensures i) c.args.cell.now c.args.findings.now)) c.draw_around.ensures
