use Rattle.std.proofs.Common.{◌≡◌, ◌++◌, take}
use Rattle.std.specs.List.{flat_map}
use Rattle.picture_places.specs.Strokes.{target_strokes}
use Rattle.picture_places.proofs.view.View.push_targets.Given as goal

abbrev pub invariant-loop-spot : goal.invariant-loop-spot
invariant-loop-spot g l = l.strokes ≡ l.initial.strokes ++ flat_map (target_strokes l.self.look.now l.self.around) (take l.spot-index l.spots)
