use Rattle.std.proofs.Common.{◌≡◌, ◌≤◌, ◌++◌, drop, length, map}
use Rattle.std.specs.List.{flat_map}
use Rattle.cell_spec.specs.declared.key.Subject.TheVariants.{Ident}
use Rattle.cell_findings.specs.Judged.{subject_findings}
use Rattle.cell_findings.proofs.search.Search.push_identities.Given as goal

abbrev pub invariant-loop-identity : goal.invariant-loop-identity
invariant-loop-identity l =
    (l.gathered.items ++ flat_map (subject_findings l.self.look.now) (map Ident (drop l.identity-index l.identities)) ≡ l.initial.gathered.items
    ++ flat_map (subject_findings l.self.look.now) (map Ident l.identities))
    × (length l.gathered.items ≤ l.self.limit)
