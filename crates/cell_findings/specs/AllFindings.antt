-- All findings of a cell within a limit, or why they aren't told. This project's own.
use Rattle.std.specs.Prelude.{◌≡◌, ℕ, ◌≤◌, ◌<◌, List, length}
use Rattle.s57_types.specs.declared.cell.Cell.{Cell}
use Rattle.rule_spec.specs.Findings.{all_findings, finding_total}
use Rattle.cell_findings.specs.Rows.{findings_of_rows}
use Rattle.cell_findings.specs.declared.list.SubjectFinding.{SubjectFinding}
use Rattle.cell_findings.specs.declared.refusal.LoadRefusal.{LoadRefusal}
use Rattle.cell_findings.specs.declared.refusal.LoadRefusal.TheVariants.{FindingsFull, NoMemory}

-- these are the findings of all kinds, and not more than the limit
pub record IsAllOf (c : Cell) (limit : ℕ) (found : List SubjectFinding) : Type 0 where
  pub all : found ≡ findings_of_rows (all_findings c)
  pub count : length found ≡ finding_total c
  pub within : finding_total c ≤ limit

abbrev pub IsFindingRefusal : Cell → ℕ → LoadRefusal → Type 0
IsFindingRefusal c limit FindingsFull = limit < finding_total c
IsFindingRefusal c limit NoMemory = Unit {0}
