use Rattle.std.proofs.Common.{◌≡◌, ◌++◌, ◌+◌, drop, map}
use Rattle.chain_topo.specs.Listed.{pointers_from}
use Rattle.chain_topo.proofs.listed.add_targets.Given as goal

-- the pointers so far, and those from the next place on
abbrev pub invariant-loop-k : goal.invariant-loop-k
invariant-loop-k g l = l.list.items ++ pointers_from l.from (l.k + 1) (map g.P.Pointer.target (drop l.k l.pointers)) ≡ l.fn.list.items
    ++ pointers_from l.from 1 (map g.P.Pointer.target l.pointers)
