use Rattle.std.proofs.Common.{◌≡◌, map, take}
use Rattle.picture_places.specs.Page.{page_point}
use Rattle.picture_places.proofs.stroke.stroke_of.Given as goal

abbrev pub invariant-loop-point : goal.invariant-loop-point
invariant-loop-point l = l.stroke.items ≡ map (page_point l.around) (take l.point-index l.points)
