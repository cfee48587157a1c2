use Rattle.std.proofs.Common.{◌≡◌, drop}
use Rattle.std.specs.List.{flat_map}
use Rattle.picture_places.specs.Labels.{anchor_of}
use Rattle.picture_places.specs.Strokes.{target_strokes}
use Rattle.picture_places.proofs.view.View.targets.Given as goal

abbrev pub invariant-loop-spot : goal.invariant-loop-spot
invariant-loop-spot g l =
    anchor_of (flat_map (target_strokes l.self.look.now l.self.around) (drop l.spot-index l.spots))
    ≡ anchor_of (flat_map (target_strokes l.self.look.now l.self.around) l.spots)
