use Rattle.std.proofs.Common.{◌≡◌, ◌≤◌, ◌++◌, drop, length}
use Rattle.std.specs.List.{flat_map}
use Rattle.cell_findings.specs.Near.{leaf_findings}
use Rattle.cell_findings.proofs.search.Search.push_pairs_together.Given as goal

abbrev pub invariant-loop-leaf : goal.invariant-loop-leaf
invariant-loop-leaf g l =
    (l.gathered.items ++ flat_map (leaf_findings l.self.look.now l.tree) (drop l.leaf-index l.leaves)
    ≡ l.initial.gathered.items ++ flat_map (leaf_findings l.self.look.now l.tree) l.leaves)
    × (length l.gathered.items ≤ l.self.limit)
