-- Findings of subjects as rows, with how many there are. This project's own rules.
use Rattle.std.specs.Prelude.{ℕ, List, Option, length, nat_lt, sum_by, if◌then◌else◌}
use Rattle.std.specs.Option.{option_map_or}
use Rattle.cell_spec.specs.declared.finding.Finding.{Finding}
use Rattle.cell_spec.specs.declared.key.Subject.{Subject}
use Rattle.cell_spec.specs.Names.{subject_order}
use Rattle.row_spec.specs.Rows.{with_row, without_key}

-- how many findings rows have
abbrev pub total_of : List (Subject × List Finding) → ℕ
total_of rows = sum_by (λ (row : Subject × List Finding). length row.1) rows

-- how many findings a subject has, by what it has
abbrev pub count_at : Option (List Finding) → ℕ
count_at had = option_map_or (λ (found : List Finding). length found) had 0

-- the rows with these findings of a subject; a subject without findings has no row
abbrev pub with_findings : List (Subject × List Finding) → Subject → List Finding → List (Subject × List Finding)
with_findings rows s found = if nat_lt 0 (length found) then with_row subject_order rows s found else without_key subject_order rows s
