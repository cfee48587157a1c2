-- What a reader of an update answers.
use Rattle.std.specs.Prelude.{◌≡◌, ℕ, Bool, true, false, List, [], length, Result, Ok, Err}
use Rattle.frame_spec.specs.RecordFrame.{Field}
use Rattle.s57_types.specs.declared.cell.Cell.{Cell}
use Rattle.s57_types.specs.declared.fault.CellFault.{CellFault}
use Rattle.cell_spec.specs.Edits.{apply_edits, find_their_records}
use Rattle.edit_sets.specs.FormFault.{GuardedEdits}
use Rattle.file_spec.specs.FileRecords.{records_after}
use Rattle.update_spec.specs.UpdateFaults.{update_fault_at}
use Rattle.update_spec.specs.UpdatedCell.{updated_cell, edits_of_update, told_by_next}
use Rattle.update_spec.specs.declared.fault.UpdateFault.{UpdateFault}
use Rattle.update_apply.specs.declared.refusal.StepRefusal.{StepRefusal}
use Rattle.update_apply.specs.declared.refusal.StepRefusal.TheVariants.{Fault, NoMemory}
use Rattle.update_apply.specs.declared.refusal.UpdateRefusal.{UpdateRefusal}
use Rattle.update_apply.specs.declared.refusal.UpdateRefusal.TheVariants as update

-- a refusal for the fault that is defined, unless memory ran out
abbrev pub Refuses : {X : Type 0} → StepRefusal → Result X UpdateFault → Type 0
Refuses (Fault fault) defined = defined ≡ Err fault
Refuses NoMemory defined = Unit {0}

-- what is defined of a record, or its fault, unless memory ran out
abbrev pub GivesUpdate : {X : Type 0} → Result X StepRefusal → Result X UpdateFault → Type 0
GivesUpdate (Ok x) defined = defined ≡ Ok x
GivesUpdate (Err refusal) defined = Refuses refusal defined

-- a refusal for the fault of the record of a number, which begins at an offset
abbrev pub RefusesAt : {X : Type 0} → ℕ → ℕ → StepRefusal → Result X CellFault → Type 0
RefusesAt number offset (Fault fault) defined = defined ≡ Err (update_fault_at number offset fault)
RefusesAt number offset NoMemory defined = Unit {0}

-- the refusal of the record of a number, which begins at an offset
abbrev pub refusal_at : ℕ → ℕ → StepRefusal → UpdateRefusal
refusal_at number offset (Fault fault) = update.Fault (update_fault_at number offset fault)
refusal_at number offset NoMemory = update.NoMemory

-- what the record that must be there says, and the place behind it, or its fault
abbrev pub GivesNext : {X : Type 0} → List ℕ → Bool → ℕ → ℕ → (List Field → Result X UpdateFault) → Result (X × ℕ) StepRefusal → Type 0
GivesNext b first number offset meaning (Ok x) = told_by_next number (length b) meaning (records_after b offset first) ≡ Ok (x.0, records_after b x.1 false)
GivesNext b first number offset meaning (Err refusal) = RefusesAt number offset refusal (told_by_next number (length b) meaning (records_after b offset first))

-- a refusal for the first fault of a file, unless memory ran out
abbrev pub RefusesFile : {X : Type 0} → UpdateRefusal → Result X CellFault → Type 0
RefusesFile (update.Fault fault) defined = defined ≡ Err fault
RefusesFile update.NoMemory defined = Unit {0}

abbrev pub GivesFile : {X : Type 0} → Result X UpdateRefusal → Result X CellFault → Type 0
GivesFile (Ok x) defined = defined ≡ Ok x
GivesFile (Err refusal) defined = RefusesFile refusal defined

-- the set of the update's edits at the cell's level, without guards. Each edit finds what it needs in the cell, and together they make the
-- updated cell of it
pub record IsUpdate (c : Cell) (b : List ℕ) (set : GuardedEdits) : Type 0 where
  pub edits_are : edits_of_update c b ≡ Ok set.edits
  pub cell_is : updated_cell c b ≡ Ok (apply_edits set.edits c)
  pub found : find_their_records set.edits c ≡ true
  pub nall_is : set.nall ≡ c.head.nall
  pub no_guards : set.guards ≡ []

-- a refusal tells the first fault of the update, of the cell that it makes as of its edits, or means out of memory
abbrev pub IsUpdateRefusal : Cell → List ℕ → UpdateRefusal → Type 0
IsUpdateRefusal c b (update.Fault fault) = (updated_cell c b ≡ Err fault) × (edits_of_update c b ≡ Err fault)
IsUpdateRefusal c b update.NoMemory = Unit {0}
