-- The edits of an update file in parts: of what stands behind its descriptive record, and behind its identification.
use Rattle.std.specs.Prelude.{ℕ, List, [], ◌∷◌, ◌++◌, Result, Ok}
use Rattle.s57_types.specs.declared.cell.Cell.{Cell}
use Rattle.s57_types.specs.declared.fault.CellFault.{CellFault}
use Rattle.s57_types.specs.declared.head.HeadEdit.{HeadEdit}
use Rattle.cell_spec.specs.declared.edit.Edit.{Edit}
use Rattle.cell_spec.specs.declared.edit.Edit.TheVariants.{Head}
use Rattle.file_spec.specs.FileRecords.{FileRecord}
use Rattle.file_spec.specs.RecordFaults.{◌>>=◌}
use Rattle.update_spec.specs.UpdateHead.{update_identification}
use Rattle.update_spec.specs.UpdatedCell.{edits_with, told_by_next}

abbrev pub edits_behind : Cell → HeadEdit × ℕ → List FileRecord → Result (List Edit) CellFault
edits_behind c general file = edits_with c general.1 3 [] file >>= λ edits. Ok (edits ++ (Head general.0 ∷ []))

abbrev pub edits_of_data : Cell → ℕ → List FileRecord → Result (List Edit) CellFault
edits_of_data c end file = told_by_next 2 end (update_identification c.head) file >>= λ general. edits_behind c general.0 general.1
