use Rattle.cell_findings.specs.Rows.{findings_of_rows}
use Rattle.report_text.proofs.FirstFindings.{AreTaken}
use Rattle.report_text.proofs.first.first_findings.Given as goal

abbrev pub invariant-loop-subject : goal.invariant-loop-subject
invariant-loop-subject l = AreTaken l.limit (findings_of_rows l.table) l.first.items l.subject-iterator
