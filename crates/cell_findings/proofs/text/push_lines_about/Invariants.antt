use Rattle.std.proofs.Common.{◌≡◌, ◌++◌, take}
use Rattle.std.specs.List.{flat_map}
use Rattle.text_spec.specs.CellText.{finding_line}
use Rattle.cell_findings.proofs.text.push_lines_about.Given as goal

abbrev pub invariant-loop-finding : goal.invariant-loop-finding
invariant-loop-finding l = l.out.items ≡ l.initial.out.items ++ flat_map (finding_line l.subject) (take l.finding-index l.findings)
