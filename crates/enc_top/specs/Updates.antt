-- An update file as the first commit of a cell's history: why it isn't applied, and what it leaves. This project's own rules.
use Rattle.std.specs.Prelude.{ℕ, List, Option, None, Result, Ok, Err}
use Rattle.cell_spec.specs.declared.edit.Edit.{Edit}
use Rattle.history_spec.specs.declared.refusal.StateRefusal.{StateRefusal}
use Rattle.s57_types.specs.declared.cell.Cell.{Cell}
use Rattle.s57_types.specs.declared.fault.CellFault.{CellFault}
use Rattle.update_spec.specs.UpdatedCell.{edits_of_update, updated_cell}
use Rattle.enc_top.specs.Commits.{IsCommitStatus, commit_refusal, left_unless}
use Rattle.report_text.specs.declared.status.Status.{Status}
use Rattle.report_text.specs.declared.status.Status.TheVariants.{BadUpdate}

-- why a cell refuses the edits of an update, if there are such
abbrev pub refusal_of_edits : Cell → Result (List Edit) CellFault → Option StateRefusal
refusal_of_edits c (Ok edits) = commit_refusal c edits
refusal_of_edits c (Err fault) = None

abbrev pub update_refusal : Cell → List ℕ → Option StateRefusal
update_refusal c bytes = refusal_of_edits c (edits_of_update c bytes)

-- the cell of an update, or the status of its first fault or of a refusal
abbrev pub left_by_update : Option StateRefusal → Result Cell CellFault → Result Cell Status
left_by_update refusal (Ok d) = left_unless refusal d
left_by_update refusal (Err fault) = Err (BadUpdate fault)

-- the cell that an update file leaves, or the status at which the call ends
abbrev pub updated : Cell → List ℕ → Result Cell Status
updated c bytes = left_by_update (update_refusal c bytes) (updated_cell c bytes)

-- the statuses at which an update of a cell can end
abbrev pub IsUpdateEnd : Status → Type 0
IsUpdateEnd (BadUpdate fault) = Unit {0}
IsUpdateEnd other = IsCommitStatus other
