use Rattle.std.proofs.Common.{◌≡◌, ◌++◌, map, take}
use Rattle.picture_places.specs.Strokes.{dot_at}
use Rattle.picture_places.proofs.view.View.push_dots.Given as goal

abbrev pub invariant-loop-point : goal.invariant-loop-point
invariant-loop-point l = l.strokes ≡ l.initial.strokes ++ map (dot_at l.self.around) (take l.point-index l.points)
