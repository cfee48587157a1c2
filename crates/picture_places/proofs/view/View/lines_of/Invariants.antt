use Rattle.std.proofs.Common.{◌≡◌, take}
use Rattle.std.specs.List.{flat_map}
use Rattle.picture_places.specs.Areas.{lines_at}
use Rattle.picture_places.proofs.view.View.lines_of.Given as goal

abbrev pub invariant-loop-spot : goal.invariant-loop-spot
invariant-loop-spot g l = l.lines.items ≡ flat_map (lines_at l.self.look.now) (take l.spot-index l.feature.places)
