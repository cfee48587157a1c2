use Rattle.std.proofs.Common.{◌≡◌, drop, find}
use Rattle.topo_ops.specs.Chains.{chain_by}
use Rattle.topo_ops.specs.Join.{is_other_pointer}
use Rattle.topo_ops.proofs.joining.other_pointer.Given as goal

abbrev pub invariant-loop-pointer : goal.invariant-loop-pointer
invariant-loop-pointer l =
    find (is_other_pointer (chain_by l.first.edge.now l.first.line) (chain_by l.second.edge.now l.second.line)) (drop l.pointer-index l.pointers)
    ≡ find (is_other_pointer (chain_by l.first.edge.now l.first.line) (chain_by l.second.edge.now l.second.line)) l.pointers
