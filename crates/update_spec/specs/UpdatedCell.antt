-- The cell that an update file makes of a cell, record by record, or the file's first fault; and the edits that stand for the whole update.
use Rattle.std.specs.Prelude.{ℕ, ◌+◌, List, [], ◌∷◌, ◌++◌, length, Option, Some, None, option_to_list, Result, Ok, Err}
use Rattle.std.specs.Result.{result_map_both}
use Rattle.frame_spec.specs.RecordFrame.{Field, FrameView}
use Rattle.s57_types.specs.declared.cell.Cell.{Cell}
use Rattle.s57_types.specs.declared.fault.CellFault.{CellFault}
use Rattle.cell_spec.specs.declared.edit.Edit.{Edit}
use Rattle.cell_spec.specs.declared.edit.Edit.TheVariants.{Head}
use Rattle.cell_spec.specs.Edits.{apply_edits}
use Rattle.file_spec.specs.FileRecords.{FileRecord, file_records}
use Rattle.file_spec.specs.RecordFaults.{◌>>=◌, of_frame}
use Rattle.file_spec.specs.declared.fault.RecordFault.TheVariants.{Short}
use Rattle.update_spec.specs.UpdateFaults.{update_fault_at}
use Rattle.update_spec.specs.UpdateHead.{update_identification}
use Rattle.update_spec.specs.UpdateRecords.{record_update}
use Rattle.update_spec.specs.declared.fault.UpdateFault.{UpdateFault}
use Rattle.update_spec.specs.declared.fault.UpdateFault.TheVariants.{Record}

-- what the record of a number says, or its fault. The fault of its frame comes first
abbrev pub told_by : {X : Type 0} → ℕ → (List Field → Result X UpdateFault) → FileRecord → Result X CellFault
told_by number meaning r = result_map_both (λ x. x) (update_fault_at number r.offset)
    (result_map_both (λ (frame : FrameView). frame.fields) (λ fault. Record (of_frame fault)) r.found >>= meaning)

-- the same of a record that must be there, with the records behind it; a file that ends before it is cut short at its end
abbrev pub told_by_next : {X : Type 0} → ℕ → ℕ → (List Field → Result X UpdateFault) → List FileRecord → Result (X × List FileRecord) CellFault
told_by_next number end meaning [] = Err (update_fault_at number end (Record Short))
told_by_next number end meaning (r ∷ file) = result_map_both (λ x. (x, file)) (λ e. e) (told_by number meaning r)

-- the cell that the edit of one record leaves, if the record stands for one: an insertion puts the record last in its list, a deletion takes it
-- out, a modification leaves it in its place
abbrev pub after_update : Option Edit → Cell → Cell
after_update None d = d
after_update (Some edit) d = apply_edits (edit ∷ []) d

-- a cell after the records that follow, which have numbers from one on, one after the other: each is judged by the cell that those before it
-- left. `earlier` are the edits of the records before, by which a name that stands twice and too many records are told
unfoldable pub with_updates : ℕ → ℕ → List Edit → Cell → List FileRecord → Result Cell CellFault
with_updates level number earlier d [] = Ok d
with_updates level number earlier d (r ∷ file) = told_by number (record_update d level number earlier) r >>= λ edit.
    with_updates level (number + 1) (earlier ++ option_to_list edit) (after_update edit d) file

-- the edits of the same records behind the earlier ones, all judged by one cell
unfoldable pub edits_with : Cell → ℕ → ℕ → List Edit → List FileRecord → Result (List Edit) CellFault
edits_with c level number earlier [] = Ok earlier
edits_with c level number earlier (r ∷ file) = told_by number (record_update c level number earlier) r >>= λ edit.
    edits_with c level (number + 1) (earlier ++ option_to_list edit) file

-- the cell that the records of an update of so many bytes make: the data descriptive record, whose fields aren't looked at, the
-- identification, at most one geographic reference, and vector and feature records in any order
unfoldable pub updated_by_records : Cell → ℕ → List FileRecord → Result Cell CellFault
updated_by_records c end file = do
  descriptive ← told_by_next 1 end Ok file
  general ← told_by_next 2 end (update_identification c.head) descriptive.1
  d ← with_updates general.0.1 3 [] c general.1
  Ok (apply_edits (Head general.0.0 ∷ []) d)

-- the cell that an update file makes of a cell, or its first fault
abbrev pub updated_cell : Cell → List ℕ → Result Cell CellFault
updated_cell c b = updated_by_records c (length b) (file_records b)

-- the edits of the whole update on a cell: one for each vector and feature record, in the order of the file, and one of the head
unfoldable pub edits_of_records : Cell → ℕ → List FileRecord → Result (List Edit) CellFault
edits_of_records c end file = do
  descriptive ← told_by_next 1 end Ok file
  general ← told_by_next 2 end (update_identification c.head) descriptive.1
  edits ← edits_with c general.0.1 3 [] general.1
  Ok (edits ++ (Head general.0.0 ∷ []))

abbrev pub edits_of_update : Cell → List ℕ → Result (List Edit) CellFault
edits_of_update c b = edits_of_records c (length b) (file_records b)
