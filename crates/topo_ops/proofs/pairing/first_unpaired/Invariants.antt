use Rattle.std.proofs.Common.{◌≡◌, ◌+◌, None, drop}
use Rattle.topo_ops.specs.Join.{unpaired_from}
use Rattle.topo_ops.proofs.pairing.first_unpaired.Given as goal

abbrev pub invariant-loop-k : goal.invariant-loop-k
invariant-loop-k l = unpaired_from l.edges (l.k + 1) l.waiting (drop l.k l.places) ≡ unpaired_from l.edges 1 None l.places
