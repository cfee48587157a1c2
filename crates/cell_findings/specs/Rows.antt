-- Findings one after the other, each with its subject.
use Rattle.std.specs.Prelude.{ℕ, List, map}
use Rattle.std.specs.List.{flat_map}
use Rattle.cell_spec.specs.declared.finding.Finding.{Finding}
use Rattle.cell_spec.specs.declared.key.Subject.{Subject}
use Rattle.text_spec.specs.CellText.{finding_line}
use Rattle.cell_findings.specs.declared.list.SubjectFinding.{SubjectFinding}

abbrev pub with_subject : Subject → Finding → SubjectFinding
with_subject s f = record { subject = s; finding = f }

-- the findings of rows
abbrev pub findings_of_row : Subject × List Finding → List SubjectFinding
findings_of_row row = map (with_subject row.0) row.1

abbrev pub findings_of_rows : List (Subject × List Finding) → List SubjectFinding
findings_of_rows = flat_map findings_of_row

abbrev pub line_of : SubjectFinding → List ℕ
line_of f = finding_line f.subject f.finding
