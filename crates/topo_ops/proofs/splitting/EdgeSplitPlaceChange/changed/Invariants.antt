use Rattle.std.proofs.Common.{◌≡◌, take}
use Rattle.topo_ops.specs.Split.{split_places}
use Rattle.topo_ops.proofs.splitting.EdgeSplitPlaceChange.changed.Given as goal

abbrev pub invariant-loop-spot : goal.invariant-loop-spot
invariant-loop-spot l = l.list.items ≡ split_places l.self.edge l.self.fresh (take l.spot-index l.places)
