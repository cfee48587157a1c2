use Rattle.std.proofs.Common.{◌≡◌, map, take}
use Rattle.topo_ops.specs.Split.{end_moved}
use Rattle.topo_ops.proofs.splitting.moved_ends.Given as goal

abbrev pub invariant-loop-end : goal.invariant-loop-end
invariant-loop-end l = l.list.items ≡ map (end_moved l.node) (take l.end-index l.ends)
