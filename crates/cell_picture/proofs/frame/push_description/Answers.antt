use Rattle.std.proofs.Common.{◌++◌}
use Rattle.cell_picture.specs.Picture.{description_head, description_tail, north_west_text, south_east_text}
use Rattle.std.proofs.lemmas.Result.{on_ok_weaker}
use Rattle.cell_picture.proofs.Pushes.{after}
use Rattle.cell_picture.proofs.frame.push_description.Goals as goal

pub returns : goal.returns
returns c =
    let out = c.args.out.now.items in
    let around = c.args.around in
    on_ok_weaker c.push_description_tail.result
    (λ last. after out description_head ((north_west_text around) ++ ((south_east_text around) ++ description_tail)) c.in_ok-push_description_head.ensures
    (after c.push_description_head.new.out.items (north_west_text around) ((south_east_text around) ++ description_tail) c.in_ok-push_north_west.ensures
    (after c.push_north_west.new.out.items (south_east_text around) description_tail c.in_ok-push_south_east.ensures last)))
    c.push_description_tail.ensures
