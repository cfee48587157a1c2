use Rattle.std.proofs.Common.{◌≡◌, ◌≤◌, ◌++◌, length}
use Rattle.std.specs.List.{flat_map}
use Rattle.std.specs.List.{All}
use Rattle.cell_findings.specs.Near.{AreNearSubjects, leaf_findings}
use Rattle.cell_findings.proofs.search.Search.push_near_pairs.Given as goal

abbrev pub invariant-loop-rest : goal.invariant-loop-rest
invariant-loop-rest g l =
    (l.gathered.items ++ flat_map (leaf_findings l.self.look.now l.tree) l.rest
    ≡ l.initial.gathered.items ++ flat_map (leaf_findings l.self.look.now l.tree) l.leaves)
    × All (AreNearSubjects l.self.look.now l.tree) l.rest × (length l.gathered.items ≤ l.self.limit)

abbrev pub decreases-loop-rest : goal.decreases-loop-rest
decreases-loop-rest g l = length l.rest
