-- The cell of a file in parts: what stands behind its descriptive record, and behind its first data record.
use Rattle.std.specs.Prelude.{ℕ, List, Result}
use Rattle.s57_types.specs.declared.fault.CellFault.{CellFault}
use Rattle.s57_types.specs.declared.field.Dsid.{Dsid}
use Rattle.s57_types.specs.declared.field.Dssi.{Dssi}
use Rattle.s57_types.specs.declared.cell.Cell.{Cell}
use Rattle.file_spec.specs.CellRecords.{empty_cell, head_with}
use Rattle.file_spec.specs.DecodedCell.{general_information, geographic_reference, said_by_next, with_following}
use Rattle.file_spec.specs.FileRecords.{FileRecord}
use Rattle.file_spec.specs.RecordFaults.{◌>>=◌}

abbrev pub records_behind_general : ℕ → Dsid → Dssi → List FileRecord → Result Cell CellFault
records_behind_general end d s file = said_by_next 3 end geographic_reference file >>= λ p. with_following 4 (empty_cell (head_with d s p.0)) p.1

abbrev pub data_records : ℕ → List FileRecord → Result Cell CellFault
data_records end file = said_by_next 2 end general_information file >>= λ g. records_behind_general end g.0.0 g.0.1 g.1
