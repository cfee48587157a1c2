-- What is written of a cell after edits is read back. This project's own rules.
use Rattle.std.specs.Prelude.{◌≡◌, ℕ, List, length, Ok}
use Rattle.std.specs.List.{AllByRecursion}
use Rattle.s57_types.specs.declared.cell.Cell.{Cell}
use Rattle.s57_types.specs.declared.head.HeadEdit.{HeadEdit}
use Rattle.cell_spec.specs.declared.edit.Edit.{Edit}
use Rattle.cell_spec.specs.declared.edit.Edit.TheVariants.{Add, Set, Del, Head}
use Rattle.cell_spec.specs.Edits.{apply_edits}
use Rattle.cell_spec.specs.Writable.{IsWritable}
use Rattle.file_spec.specs.DecodedCell.{decoded_cell}
use Rattle.file_spec.specs.EncodedCell.{encoded_cell}
use Rattle.file_spec.specs.RoundTrip.{RecordHasForms, HasItsTypes}
use Rattle.text_spec.specs.declared.command.Command.{Command}
use Rattle.text_spec.specs.declared.command.Command.TheVariants.{View, Commit, Drop, List as Findings, Push, Guard}
use Rattle.history_spec.specs.ReportText.{final_cell}

-- new values of a head are as their types have them: dates of eight bytes
pub record HeadEditHasForms (e : HeadEdit) : Type 0 where
  pub uadt : length e.uadt ≡ 8
  pub isdt : length e.isdt ≡ 8

-- what an edit leaves is as its types have it
abbrev pub EditHasItsTypes : ℕ → Edit → Type 0
EditHasItsTypes nall (Add r) = RecordHasForms nall r
EditHasItsTypes nall (Set r) = RecordHasForms nall r
EditHasItsTypes nall (Del n) = Unit {0}
EditHasItsTypes nall (Head e) = HeadEditHasForms e

abbrev pub CommandHasItsTypes : ℕ → Command → Type 0
CommandHasItsTypes nall View = Unit {0}
CommandHasItsTypes nall Commit = Unit {0}
CommandHasItsTypes nall Drop = Unit {0}
CommandHasItsTypes nall (Findings shown) = Unit {0}
CommandHasItsTypes nall (Push edit) = EditHasItsTypes nall edit
CommandHasItsTypes nall (Guard name) = Unit {0}

-- edits as their types have them leave a cell as its types have it
abbrev pub EditsKeepTypes : Type 0
EditsKeepTypes = (c : Cell) (edits : List Edit) → HasItsTypes c → AllByRecursion (EditHasItsTypes c.head.nall) edits → HasItsTypes (apply_edits edits c)

-- the file that is written of the cell that a run leaves is read as that cell
abbrev pub RunsAreReadBack : Type 0
RunsAreReadBack = (c : Cell) (scripts : List (List Command)) (order : List ℕ) → IsWritable c → HasItsTypes c
    → AllByRecursion (AllByRecursion (CommandHasItsTypes c.head.nall)) scripts → decoded_cell (encoded_cell (final_cell c scripts order)) ≡
    Ok (final_cell c scripts order)
