use Rattle.std.proofs.Common.{◌≡◌, ◌≤◌, ◌++◌, drop, length, map}
use Rattle.std.specs.List.{flat_map}
use Rattle.cell_spec.specs.declared.key.Subject.TheVariants.{Rec}
use Rattle.cell_findings.specs.Judged.{subject_findings}
use Rattle.cell_findings.proofs.search.Search.push_records.Given as goal

abbrev pub invariant-loop-name : goal.invariant-loop-name
invariant-loop-name l =
    (l.gathered.items ++ flat_map (subject_findings l.self.look.now) (map Rec (drop l.name-index l.names)) ≡ l.initial.gathered.items
    ++ flat_map (subject_findings l.self.look.now) (map Rec l.names))
    × (length l.gathered.items ≤ l.self.limit)
