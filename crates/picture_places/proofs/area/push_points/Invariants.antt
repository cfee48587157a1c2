use Rattle.std.proofs.Common.{◌≡◌, ◌++◌, take}
use Rattle.std.specs.List.{flat_map}
use Rattle.picture_places.specs.Areas.{points_of_line}
use Rattle.picture_places.proofs.area.push_points.Given as goal

abbrev pub invariant-loop-line : goal.invariant-loop-line
invariant-loop-line l = l.points.items ≡ l.initial.points.items ++ flat_map points_of_line (take l.line-index l.lines)
