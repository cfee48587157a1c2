-- What a reader of a record answers.
use Rattle.std.specs.Prelude.{◌≡◌, ◌≤◌, ℕ, Bool, false, List, length, Option, Some, Result, Ok, Err}
use Rattle.s57_fields.specs.declared.refusal.FieldRefusal.{FieldRefusal}
use Rattle.s57_fields.specs.declared.refusal.FieldRefusal.TheVariants as field
use Rattle.s57_types.specs.declared.cell.Cell.{Cell}
use Rattle.s57_types.specs.declared.fault.CellFault.{CellFault}
use Rattle.s57_types.specs.declared.head.Head.{Head}
use Rattle.frame_spec.specs.RecordFrame.{Field}
use Rattle.file_spec.specs.CellRecords.{empty_cell}
use Rattle.file_spec.specs.DecodedCell.{said_by_next, with_following}
use Rattle.file_spec.specs.FileRecords.{records_after}
use Rattle.file_spec.specs.RecordFaults.{fault_at}
use Rattle.file_spec.specs.declared.fault.RecordFault.{RecordFault}
use Rattle.file_spec.specs.declared.fault.RecordFault.TheVariants as faults
use Rattle.cell_read.specs.declared.refusal.RecordRefusal.{RecordRefusal}
use Rattle.cell_read.specs.declared.refusal.RecordRefusal.TheVariants.{Fault, NoMemory}
use Rattle.cell_read.specs.declared.refusal.ReadRefusal.{ReadRefusal}
use Rattle.cell_read.specs.declared.refusal.ReadRefusal.TheVariants as read

-- what is defined, or its fault, unless memory ran out
abbrev pub GivesRecord : {X : Type 0} → Result X RecordRefusal → Result X RecordFault → Type 0
GivesRecord (Ok x) defined = defined ≡ Ok x
GivesRecord (Err (Fault fault)) defined = defined ≡ Err fault
GivesRecord (Err NoMemory) defined = Unit {0}

-- a refusal for the fault that there is, unless memory ran out
abbrev pub IsFault : RecordRefusal → Option RecordFault → Type 0
IsFault (Fault fault) found = found ≡ Some fault
IsFault NoMemory found = Unit {0}

-- what a refused field makes of its record
abbrev pub refusal_of_field : FieldRefusal → RecordRefusal
refusal_of_field field.BadField = Fault faults.BadField
refusal_of_field field.BadText = Fault faults.BadText
refusal_of_field field.NoMemory = NoMemory

-- what is defined of a file, or its first fault, unless memory ran out
abbrev pub GivesCell : {X : Type 0} → Result X ReadRefusal → Result X CellFault → Type 0
GivesCell (Ok x) defined = defined ≡ Ok x
GivesCell (Err (read.Fault fault)) defined = defined ≡ Err fault
GivesCell (Err read.NoMemory) defined = Unit {0}

-- the head of a cell and the place behind the head records, or the first fault of its file, unless memory ran out
abbrev pub GivesStart : List ℕ → Result (Head × ℕ) ReadRefusal → Result Cell CellFault → Type 0
GivesStart b (Ok x) defined = (defined ≡ with_following 4 (empty_cell x.0) (records_after b x.1 false)) × (x.1 ≤ length b)
GivesStart b (Err refusal) defined = GivesCell {X = Cell} (Err refusal) defined

-- the refusal of the record of a number, which begins at an offset
abbrev pub refusal_at : ℕ → ℕ → RecordRefusal → ReadRefusal
refusal_at number offset (Fault fault) = read.Fault (fault_at number offset fault)
refusal_at number offset NoMemory = read.NoMemory

-- a refusal for the fault of the record of a number, which begins at an offset
abbrev pub IsFaultAt : {X : Type 0} → ℕ → ℕ → RecordRefusal → Result X CellFault → Type 0
IsFaultAt number offset (Fault fault) defined = defined ≡ Err (fault_at number offset fault)
IsFaultAt number offset NoMemory defined = Unit {0}

-- what the record that must be there says, and the place behind it, or its fault
abbrev pub GivesNext : {X : Type 0} → List ℕ → Bool → ℕ → ℕ → (List Field → Result X RecordFault) → Result (X × ℕ) RecordRefusal → Type 0
GivesNext b first number offset meaning (Ok x) = said_by_next number (length b) meaning (records_after b offset first) ≡ Ok (x.0, records_after b x.1 false)
GivesNext b first number offset meaning (Err refusal) = IsFaultAt number offset refusal (said_by_next number (length b) meaning (records_after b offset first))
