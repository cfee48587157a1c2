-- What a control field makes of the rows of a record, with the rows that the update gives (S-57 Part 3, 8.4.2 and 8.4.3).
use Rattle.std.specs.Prelude.{ℕ, ℤ, ◌+◌, ◌-◌, ◌==◌, ◌&&◌, ◌||◌, Bool, true, false, not, nat_le, List, ◌++◌, length, take, drop, Option, Some, None, Result}
use Rattle.std.specs.Prelude.{Ok, Err}
use Rattle.file_spec.specs.RecordFaults.{◌>>=◌, ◌>>◌, demand}
use Rattle.update_spec.specs.ControlFields.{instruction_of}
use Rattle.update_spec.specs.declared.control.Control.{Control}
use Rattle.update_spec.specs.declared.control.Instruction.{Instruction}
use Rattle.update_spec.specs.declared.control.Instruction.TheVariants.{Insert, Delete, Modify}
use Rattle.update_spec.specs.declared.fault.UpdateFault.{UpdateFault}
use Rattle.update_spec.specs.declared.fault.UpdateFault.TheVariants.{BadControl}

-- the index, from 1, and the number of rows say where the change is: so many of the rows of a list are there from the index on, and may go; the
-- index of an insertion may be behind the last row. As many rows are given as come in their place
abbrev pub has_place : ℕ → ℕ → Control → ℕ → ℕ → Bool
has_place removed wanted control given rows =
    nat_le 1 control.index && nat_le 1 control.count && nat_le (control.index - 1 + removed) rows && (given == wanted)

-- the rows before the index, the given ones, and the rows behind those that go
unfoldable pub changed_rows : {X : Type 0} → ℕ → ℕ → Control → List X → List X → Result (List X) UpdateFault
changed_rows removed wanted control given rows = do
  demand (has_place removed wanted control (length given) (length rows)) BadControl
  Ok (take (control.index - 1) rows ++ given ++ drop (control.index - 1 + removed) rows)

-- an insertion takes no row away, a deletion gives none, and a modification does both
abbrev pub rows_by_instruction : {X : Type 0} → Option Instruction → Control → List X → List X → Result (List X) UpdateFault
rows_by_instruction None control given rows = Err BadControl
rows_by_instruction (Some Insert) control given rows = changed_rows 0 control.count control given rows
rows_by_instruction (Some Delete) control given rows = changed_rows control.count 0 control given rows
rows_by_instruction (Some Modify) control given rows = changed_rows control.count control.count control given rows

-- the rows of a list after the update; without a control field they stay, and no row may be given
unfoldable pub updated_rows : {X : Type 0} → Option Control → List X → List X → Result (List X) UpdateFault
updated_rows None given rows = do
  demand (length given == 0) BadControl
  Ok rows
updated_rows (Some control) given rows = rows_by_instruction (instruction_of control.instruction) control given rows

-- a record's 2-D coordinates and its soundings
abbrev pub Coordinates : Type 0
Coordinates = List (ℤ × ℤ) × List (ℤ × ℤ × ℤ)

-- coordinates are updated by one control field: the soundings where soundings are given, and where nothing is given and the record has no
-- 2-D coordinates; else the 2-D coordinates
abbrev pub are_soundings_updated : Coordinates → Coordinates → Bool
are_soundings_updated given held = not (length given.1 == 0) || ((length given.0 == 0) && (length held.0 == 0))

abbrev pub updated_list : Bool → Option Control → Coordinates → Coordinates → Result Coordinates UpdateFault
updated_list true control given held = updated_rows control given.1 held.1 >>= λ deep. Ok (held.0, deep)
updated_list false control given held = updated_rows control given.0 held.0 >>= λ plane. Ok (plane, held.1)

-- the coordinates after the update, which may not give both
unfoldable pub updated_coordinates : Option Control → Coordinates → Coordinates → Result Coordinates UpdateFault
updated_coordinates control given held = do
  demand ((length given.0 == 0) || (length given.1 == 0)) BadControl
  updated_list (are_soundings_updated given held) control given held
