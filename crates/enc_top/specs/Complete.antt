-- Input files that leave a call no refusal. This project's own.
use Rattle.std.specs.Prelude.{◌≡◌, ◌⊎◌, ℕ, ◌≤◌, List, None, Ok}
use Rattle.cell_make.specs.GeneratedCell.{generated_cell}
use Rattle.enc_outside.specs.Files.{Files}
use Rattle.history_spec.specs.Steps.{finding_limit}
use Rattle.rule_spec.specs.Findings.{finding_total}
use Rattle.s57_types.specs.declared.cell.Cell.{Cell}
use Rattle.text_spec.specs.declared.command.Command.{Command}
use Rattle.room_laws.specs.Orders.{quotas_of}
use Rattle.call_files.specs.Inputs.{cell_limit}
use Rattle.call_files.specs.Outside.{IsSmooth, Outside}
use Rattle.enc_top.specs.declared.operation.Operation.{Operation}
use Rattle.enc_top.specs.Commits.{commit_refusal}
use Rattle.enc_top.specs.Operations.{operation_edits, operation_refusal}
use Rattle.enc_top.specs.Updates.{update_refusal}
use Rattle.update_spec.specs.UpdatedCell.{updated_cell}
use Rattle.enc_top.specs.Words.{Form, check_form, form_of, make_form, drill_form, edge_form, apply_form, no_form, probe_form, replay_form, room_form}
use Rattle.report_text.specs.declared.status.Status.{Status}
use Rattle.report_text.specs.declared.status.Status.TheVariants.{Done, NoMemory}
use Rattle.call_files.specs.GoodFiles.{AreGoodScripts, IsGoodCell, IsGoodOrder, IsThere}

-- nothing speaks against an operation on a cell's edges
pub record IsGoodOperation (c : Cell) (operation : Operation) : Type 0 where
  pub possible : operation_refusal c operation ≡ None
  pub taken : commit_refusal c (operation_edits c operation) ≡ None

-- an update file is there that makes a cell, and nothing speaks against its edits
pub record IsGoodUpdate (c : Cell) (name : List ℕ) (files : Files) : Type 0 where
  pub bytes : List ℕ
  pub file : IsThere cell_limit name bytes files
  pub left : Cell
  pub faultless : updated_cell c bytes ≡ Ok left
  pub taken : update_refusal c bytes ≡ None

-- the input files of a form are a cell, scripts and an order of them; the generated cell has not too many findings; nothing speaks against an
-- operation
abbrev pub AreGood : Form → Files → Type 0
AreGood (check_form cell) files = IsGoodCell cell files
AreGood (replay_form cell out order scripts) files = IsGoodCell cell files
    × ((commands : List (List Command)) × AreGoodScripts scripts files commands × IsGoodOrder (quotas_of commands) order files)
AreGood (room_form cell out scripts) files = IsGoodCell cell files × ((commands : List (List Command)) × AreGoodScripts scripts files commands)
AreGood (make_form n out) files = Unit {0}
AreGood (drill_form n sessions) files = finding_total (generated_cell n) ≤ finding_limit
AreGood (edge_form cell out operation) files = (good : IsGoodCell cell files) × IsGoodOperation good.start operation
AreGood (probe_form cell at) files = IsGoodCell cell files
AreGood (apply_form cell out update) files = (good : IsGoodCell cell files) × IsGoodUpdate good.start update files
AreGood no_form files = ⊥

-- where the files are told and good, no device failed and no rendezvous may give up, all is done, unless memory ran out
abbrev pub IsComplete : Type 0 → List (List ℕ) → Outside → Outside → Status → Type 0
IsComplete sticks words before after status = (files : Files) → IsSmooth before after files → ¬ sticks → AreGood (form_of words) files
    → (status ≡ Done) ⊎ (status ≡ NoMemory)
