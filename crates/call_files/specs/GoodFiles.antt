-- Input files that leave a call no refusal. This project's own.
use Rattle.std.specs.Prelude.{◌≡◌, ℕ, ◌<◌, ◌≤◌, List, [], length, slice_index_or, Some, Ok}
use Rattle.enc_outside.specs.Files.{Files}
use Rattle.file_spec.specs.DecodedCell.{decoded_cell}
use Rattle.history_spec.specs.Steps.{finding_limit}
use Rattle.rule_spec.specs.Findings.{finding_total}
use Rattle.s57_types.specs.declared.cell.Cell.{Cell}
use Rattle.text_spec.specs.OrderLine.{IsOrder, order_line}
use Rattle.text_spec.specs.ScriptLines.{IsScript}
use Rattle.text_spec.specs.declared.command.Command.{Command}
use Rattle.call_files.specs.Inputs.{cell_limit, order_limit, script_limit}

-- a file is there and within its limit
pub record IsThere (limit : ℕ) (name bytes : List ℕ) (files : Files) : Type 0 where
  pub there : files name ≡ Some bytes
  pub within : length bytes ≤ limit

-- it is a cell that has not too many findings
pub record IsGoodCell (name : List ℕ) (files : Files) : Type 0 where
  pub bytes : List ℕ
  pub file : IsThere cell_limit name bytes files
  pub start : Cell
  pub decoded : decoded_cell bytes ≡ Ok start
  pub few : finding_total start ≤ finding_limit

-- it is a script of these commands
pub record IsGoodScript (name : List ℕ) (files : Files) (commands : List Command) : Type 0 where
  pub bytes : List ℕ
  pub file : IsThere script_limit name bytes files
  pub script : IsScript bytes commands

pub record AreGoodScripts (names : List (List ℕ)) (files : Files) (commands : List (List Command)) : Type 0 where
  pub many : length commands ≡ length names
  pub each : (k : ℕ) → k < length names → IsGoodScript (slice_index_or names k []) files (slice_index_or commands k [])

-- it is the line of an order of sessions with so many shared commands
pub record IsGoodOrder (quotas name : List ℕ) (files : Files) : Type 0 where
  pub sessions : List ℕ
  pub file : IsThere order_limit name (order_line sessions) files
  pub order : IsOrder quotas sessions
