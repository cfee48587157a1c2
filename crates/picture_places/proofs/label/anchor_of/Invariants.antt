use Rattle.std.proofs.Common.{◌≡◌, drop}
use Rattle.picture_places.specs.Labels.{anchor_of}
use Rattle.picture_places.proofs.label.anchor_of.Given as goal

abbrev pub invariant-loop-stroke : goal.invariant-loop-stroke
invariant-loop-stroke l = anchor_of (drop l.stroke-index l.strokes) ≡ anchor_of l.strokes
