-- Findings one after the other as rows, those about one subject together. This project's own rules.
use Rattle.std.specs.Prelude.{◌≡◌, ℕ, ◌<◌, Bool, List, [], ◌∷◌, length, map, take}
use Rattle.std.specs.List.{AllByRecursion, prefix_len}
use Rattle.cell_spec.specs.declared.finding.Finding.{Finding}
use Rattle.cell_spec.specs.declared.key.Subject.{Subject}
use Rattle.cell_spec.specs.Names.{same_subject, subject_order}
use Rattle.row_spec.specs.Rows.{IsAscending}
use Rattle.cell_findings.specs.declared.list.SubjectFinding.{SubjectFinding}
use Rattle.cell_findings.specs.Rows.{findings_of_rows}

abbrev pub finding_in : SubjectFinding → Finding
finding_in f = f.finding

abbrev pub is_about : Subject → SubjectFinding → Bool
is_about s f = same_subject f.subject s

-- how many findings at the front are about the subject of the first
abbrev pub front_length : List SubjectFinding → ℕ
front_length [] = 0
front_length (f ∷ fs) = prefix_len (is_about f.subject) (f ∷ fs)

-- the row of the subject at the front, if there is a finding
abbrev pub front_row : List SubjectFinding → List (Subject × List Finding)
front_row [] = []
front_row (f ∷ fs) = (f.subject, map finding_in (take (front_length (f ∷ fs)) (f ∷ fs))) ∷ []

-- the findings are those of rows of which each has some, and no two are about one subject
pub record AreRowsOf (rows : List (Subject × List Finding)) (findings : List SubjectFinding) : Type 0 where
  pub flat : findings ≡ findings_of_rows rows
  pub some : AllByRecursion (λ (row : Subject × List Finding). 0 < length row.1) rows
  pub ascending : IsAscending subject_order rows
