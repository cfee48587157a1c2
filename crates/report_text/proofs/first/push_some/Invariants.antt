use Rattle.std.proofs.Common.{◌≡◌, ◌++◌, map, take}
use Rattle.cell_findings.specs.Rows.{with_subject}
use Rattle.report_text.proofs.first.push_some.Given as goal

abbrev pub invariant-loop-finding : goal.invariant-loop-finding
invariant-loop-finding l = l.first.items ≡ l.initial.first.items ++ map (with_subject l.subject) (take l.finding-index l.some)
