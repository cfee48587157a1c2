use Rattle.std.proofs.Common.{◌≡◌, None, drop, fold}
use Rattle.picture_places.specs.Page.{around_with}
use Rattle.picture_places.proofs.extent.box_around.Given as goal

abbrev pub invariant-loop-point : goal.invariant-loop-point
invariant-loop-point l = fold around_with l.around (drop l.point-index l.points) ≡ fold around_with None l.points
