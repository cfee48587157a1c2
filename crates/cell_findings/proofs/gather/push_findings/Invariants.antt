use Rattle.std.proofs.Common.{◌≡◌, ◌++◌, map, take}
use Rattle.cell_findings.specs.Rows.{with_subject}
use Rattle.cell_findings.proofs.gather.push_findings.Given as goal

abbrev pub invariant-loop-finding : goal.invariant-loop-finding
invariant-loop-finding l = l.gathered.items ≡ l.initial.gathered.items ++ map (with_subject l.subject) (take l.finding-index l.findings)
