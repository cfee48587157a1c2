use Rattle.std.proofs.Common.{◌≡◌, ◌≤◌, ◌++◌, drop, length, map}
use Rattle.std.specs.List.{flat_map}
use Rattle.cell_spec.specs.declared.key.Subject.TheVariants.{Side}
use Rattle.cell_findings.specs.Judged.{subject_findings}
use Rattle.cell_findings.proofs.search.Search.push_sides.Given as goal

abbrev pub invariant-loop-edge : goal.invariant-loop-edge
invariant-loop-edge l =
    (l.gathered.items ++ flat_map (subject_findings l.self.look.now) (map Side (drop l.edge-index l.edges)) ≡ l.initial.gathered.items
    ++ flat_map (subject_findings l.self.look.now) (map Side l.edges))
    × (length l.gathered.items ≤ l.self.limit)
