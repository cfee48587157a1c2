-- How many rows of a tag are kept of a record of an update: all of them, or so many that no record that is written has them, and that no control
-- field counts them.
use Rattle.std.specs.Prelude.{ℕ, Result, Ok}
use Rattle.s57_types.specs.declared.cell.Cell.{Cell}
use Rattle.s57_types.specs.declared.record.Rec.{Rec}
use Rattle.cell_read.specs.Kept.{IsKept}
use Rattle.cell_spec.specs.declared.edit.Edit.{Edit}
use Rattle.cell_spec.specs.declared.edit.Edit.TheVariants.{Add}
use Rattle.file_spec.specs.RecordFaults.{◌>>◌, demand}
use Rattle.file_spec.specs.declared.fault.RecordFault.TheVariants.{TooLong}
use Rattle.update_spec.specs.UpdatedRows.{Coordinates}
use Rattle.update_spec.specs.UpdateRecords.{is_short}
use Rattle.update_spec.specs.declared.fault.UpdateFault.{UpdateFault}
use Rattle.update_spec.specs.declared.fault.UpdateFault.TheVariants.{Record}

abbrev pub row_limit : ℕ
row_limit = 65536

pub record AreKept (kept given : Coordinates) : Type 0 where
  pub plane : IsKept row_limit kept.0 given.0
  pub deep : IsKept row_limit kept.1 given.1

-- the edit that adds a record, which may not be too long
abbrev pub added_unless_long : Cell → Rec → Result Edit UpdateFault
added_unless_long c r = demand (is_short c r) (Record TooLong) >> Ok (Add r)
