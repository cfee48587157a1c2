use Rattle.std.proofs.Common.{◌≡◌, take}
use Rattle.topo_ops.specs.Join.{joined_places}
use Rattle.topo_ops.proofs.joining.EdgeJoinPlaceChange.changed.Given as goal

abbrev pub invariant-loop-spot : goal.invariant-loop-spot
invariant-loop-spot l = l.list.items ≡ joined_places l.self.other (take l.spot-index l.places)
