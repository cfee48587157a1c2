use Rattle.std.proofs.Common.{◌≡◌, ◌++◌, map, take}
use Rattle.picture_places.specs.Page.{without_depth}
use Rattle.picture_places.proofs.extent.push_soundings.Given as goal

abbrev pub invariant-loop-sounding : goal.invariant-loop-sounding
invariant-loop-sounding l = l.points.items ≡ l.initial.points.items ++ map without_depth (take l.sounding-index l.deep)
