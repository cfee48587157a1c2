use Rattle.std.proofs.Common.{◌<◌, Some, length, ap, ◌∙◌, arith}
use Rattle.picture_places.specs.Page.{page_point}
use Rattle.picture_places.proofs.Anchors.{sounding_first}
use Rattle.picture_places.proofs.hold.first_sounding.Goals as goal

pub returns-in-len1-up : goal.returns-in-len1-up
returns-in-len1-up c =
    let some : 0 < length c.args.deep.now = omega (arith, c.in-len1-up.len_at_least) in
    ap Some (c.page_point.ensures ∙ ap (page_point c.args.around) c.position_of.ensures)
    ∙ sounding_first c.args.around c.args.deep.now _ some
