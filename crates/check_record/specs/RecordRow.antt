-- The row of a record: what a check of it answers. This project's own.
use Rattle.std.specs.Prelude.{◌≡◌}
use Rattle.s57_types.specs.declared.name.RecName.{RecName}
use Rattle.s57_types.specs.declared.cell.Cell.{Cell}
use Rattle.cell_spec.specs.declared.finding.Row.{Row}
use Rattle.cell_spec.specs.declared.key.Subject.TheVariants.{Rec}
use Rattle.rule_spec.specs.Findings.{findings_of_subject}
use Rattle.rule_spec.specs.Reads.{read_set}

-- a row is about the record of a name and has its findings and its read set
pub record IsRecordRow (c : Cell) (n : RecName) (row : Row) : Type 0 where
  pub subject : row.subject ≡ Rec n
  pub findings : row.findings ≡ findings_of_subject c (Rec n)
  pub reads : row.reads ≡ read_set c (Rec n)
