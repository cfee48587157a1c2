use Rattle.std.proofs.Common.{◌≡◌, ◌≤◌, ◌++◌, drop, length, map}
use Rattle.std.specs.List.{flat_map}
use Rattle.cell_spec.specs.declared.key.Subject.TheVariants.{Pair}
use Rattle.cell_findings.specs.Judged.{subject_findings}
use Rattle.cell_findings.proofs.search.Search.push_pairs_with.Given as goal

abbrev pub invariant-loop-other : goal.invariant-loop-other
invariant-loop-other g l =
    (l.gathered.items ++ flat_map (subject_findings l.self.look.now) (map (Pair l.name) (drop l.other-index l.others))
    ≡ l.initial.gathered.items ++ flat_map (subject_findings l.self.look.now) (map (Pair l.name) l.others))
    × (length l.gathered.items ≤ l.self.limit)
