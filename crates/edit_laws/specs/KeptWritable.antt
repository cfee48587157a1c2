-- What edits keep of a cell. This project's own rules.
use Rattle.std.specs.Prelude.{◌≡◌, ℕ, Bool, true, false, List, Option, None, Some, All}
use Rattle.s57_types.specs.declared.name.RecName.{RecName}
use Rattle.s57_types.specs.declared.cell.Cell.{Cell}
use Rattle.cell_spec.specs.declared.edit.Edit.{Edit}
use Rattle.cell_spec.specs.Edits.{is_applicable}
use Rattle.cell_spec.specs.Writable.{IsWritable}
use Rattle.edit_sets.specs.FormFault.{form_fault}
use Rattle.text_spec.specs.EditLine.{has_line}
use Rattle.text_spec.specs.declared.command.Command.{Command}
use Rattle.history_spec.specs.declared.refusal.StateRefusal.{StateRefusal}
use Rattle.history_spec.specs.declared.refusal.StateRefusal.TheVariants.{AddExists, SetMissing, DelMissing, CellFull, FindingsFull, HeadTooLong}
use Rattle.history_spec.specs.ReportText.{final_cell}
use Rattle.history_spec.specs.Steps.{state_refusal}

-- edits that are an edit set with some guards at the level of a writable cell, and that the cell takes, each have a line
abbrev pub TakenEditsHaveLines : Type 0
TakenEditsHaveLines = (c : Cell) (edits : List Edit) (guards : List RecName) → IsWritable c → form_fault c.head.nall edits guards ≡ None
    → is_applicable edits c ≡ true → All (λ edit. has_line edit ≡ true) edits

-- there is no refusal because of a record that is there or is missing, nor because the cell is full or its head too long; that there are
-- too many findings says nothing of the cell's records
abbrev pub is_taken : Option StateRefusal → Bool
is_taken None = true
is_taken (Some (AddExists n)) = false
is_taken (Some (SetMissing n)) = false
is_taken (Some (DelMissing n)) = false
is_taken (Some (CellFull count)) = false
is_taken (Some FindingsFull) = true
is_taken (Some (HeadTooLong bytes)) = false

-- the refusals tell exactly whether the cell takes the edits
abbrev pub RefusalsAreExact : Type 0
RefusalsAreExact = (c : Cell) (edits : List Edit) → is_taken (state_refusal c edits) ≡ is_applicable edits c

-- whatever scripts ask of a writable cell, in whatever order, the cell that is left is writable
abbrev pub RunsLeaveWritable : Type 0
RunsLeaveWritable = (c : Cell) (scripts : List (List Command)) (order : List ℕ) → IsWritable c → IsWritable (final_cell c scripts order)
