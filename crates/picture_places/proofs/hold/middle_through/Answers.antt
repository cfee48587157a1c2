use Rattle.std.proofs.Common.{◌∙◌}
use Rattle.picture_places.proofs.Anchors.{middle_is}
use Rattle.std.proofs.Common.{Some, ap}
use Rattle.picture_places.proofs.hold.middle_through.Goals as goal

pub returns : goal.returns
returns c =
    ap Some c.half_way.ensures
    ∙ middle_is c.args.around c.args.points.now c.page_point-first.result c.page_point-second.result _ _ c.if-n-eq0.false c.page_point-first.ensures
    c.page_point-second.ensures
