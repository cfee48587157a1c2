-- What words and files ask for. This project's own.
use mathlib.Core.List.{IsPrefix}
use Rattle.std.specs.Prelude.{◌≡◌, ◌⊎◌, ℕ, nat_lt, List, Option, Result, Ok, Err, IfSome, if◌then◌else◌}
use Rattle.cell_make.specs.GeneratedCell.{generated_cell}
use Rattle.enc_outside.specs.Files.{Files}
use Rattle.export_laws.specs.ExportedCells.{IsReadBack}
use Rattle.rule_spec.specs.Findings.{finding_total}
use Rattle.s57_types.specs.declared.cell.Cell.{Cell}
use Rattle.text_spec.specs.OrderLine.{IsOrder, order_line}
use Rattle.run_laws.specs.Course.{IsCourse}
use Rattle.room_laws.specs.Orders.{quotas_of}
use Rattle.text_spec.specs.declared.command.Command.{Command}
use Rattle.history_spec.specs.Steps.{finding_limit}
use Rattle.enc_top.specs.declared.operation.Operation.{Operation}
use Rattle.enc_top.specs.Operations.{operated}
use Rattle.enc_top.specs.Updates.{updated}
use Rattle.call_files.specs.Task.{Task}
use Rattle.enc_top.specs.Task.{check_task, drill_task, left_task, make_task, probe_task, run_task}
use Rattle.enc_top.specs.Words.{Form, check_form, replay_form, room_form, make_form, drill_form, edge_form, probe_form, apply_form, no_form}
use Rattle.report_text.specs.declared.status.Status.{Status}
use Rattle.report_text.specs.declared.status.Status.TheVariants.{Usage, TooManyFindings}
use Rattle.call_files.specs.Inputs.{AndThen, CellIs, FileIs, IsAmong, IsReachedScript, OrderIs, ScriptsAre, cell_limit}

-- a run of scripts on a cell, in the order of a file; the order is read after all scripts
abbrev pub OrderedRunIs : Cell → List ℕ → List ℕ → List (List Command) → Files → Result Task Status → Type 0
OrderedRunIs c out order commands files = AndThen (OrderIs (quotas_of commands) order files) (λ sessions answer. answer ≡ Ok (run_task c out commands sessions))

abbrev pub RunIs : Cell → List ℕ → List ℕ → List (List ℕ) → Files → Result Task Status → Type 0
RunIs c out order scripts files = AndThen (ScriptsAre scripts files) (λ commands. OrderedRunIs c out order commands files)

-- a run of scripts on a cell, each in a thread of its own: in some order of them
abbrev pub RoomIs : Cell → List ℕ → List (List ℕ) → Files → Result Task Status → Type 0
RoomIs c out scripts files = AndThen (ScriptsAre scripts files) (λ commands answer. (sessions : List ℕ) × IsOrder (quotas_of commands) sessions
    × (answer ≡ Ok (run_task c out commands sessions)))

-- a drill, where the generated cell has not too many findings
abbrev pub drill_answer : ℕ → ℕ → Result Task Status
drill_answer n sessions = if nat_lt finding_limit (finding_total (generated_cell n)) then Err TooManyFindings else Ok (drill_task n sessions)

-- an operation on edges of a cell
abbrev pub EdgeWorkIs : Cell → List ℕ → Operation → Result Task Status → Type 0
EdgeWorkIs c out operation = AndThen (λ left. operated c operation ≡ left) (λ d answer. answer ≡ Ok (left_task d out))

-- an update of a cell
abbrev pub UpdateWorkIs : Cell → List ℕ → List ℕ → Result Task Status → Type 0
UpdateWorkIs c out bytes = AndThen (λ left. updated c bytes ≡ left) (λ d answer. answer ≡ Ok (left_task d out))

-- the same of an update file, which may have as many bytes as a cell file
abbrev pub UpdateIs : Cell → (out update : List ℕ) → Files → Result Task Status → Type 0
UpdateIs c out update files = AndThen (FileIs cell_limit update files) (UpdateWorkIs c out)

-- what is done: the text of the cell is put, or the report of the run, and then the cell that is left is written; the generated cell and the drill
-- on it are told by a line; what is told of the areas round a point is put; what an operation or an update leaves is put as a cell, and written
abbrev pub OutputIs : Form → Files → Result Task Status → Type 0
OutputIs (check_form cell) files = AndThen (CellIs cell files) (λ c answer. answer ≡ Ok (check_task c))
OutputIs (replay_form cell out order scripts) files = AndThen (CellIs cell files) (λ c. RunIs c out order scripts files)
OutputIs (room_form cell out scripts) files = AndThen (CellIs cell files) (λ c. RoomIs c out scripts files)
OutputIs (make_form n out) files = λ answer. answer ≡ Ok (make_task n out)
OutputIs (drill_form n sessions) files = λ answer. answer ≡ drill_answer n sessions
OutputIs (edge_form cell out operation) files = AndThen (CellIs cell files) (λ c. EdgeWorkIs c out operation)
OutputIs (probe_form cell at) files = AndThen (CellIs cell files) (λ c answer. answer ≡ Ok (probe_task c at))
OutputIs (apply_form cell out update) files = AndThen (CellIs cell files) (λ c. UpdateIs c out update files)
OutputIs no_form files = λ answer. answer ≡ Err Usage

-- two answers to what words and files ask for are one; of sessions in threads, two reports may be in different orders
abbrev pub AreOneAnswer : Form → Result Task Status → Result Task Status → Type 0
AreOneAnswer (room_form cell out scripts) (Ok task) (Ok other) = Unit {0}
AreOneAnswer form answer other = answer ≡ other

-- what words and files ask for is one answer
abbrev pub AsksOneAnswer : Type 0
AsksOneAnswer = (form : Form) (files : Files) (answer other : Result Task Status) → OutputIs form files answer → OutputIs form files other
    → AreOneAnswer form answer other

-- a run of scripts on a cell in some order, where the files are told that of the file, which takes its course, and after which the file of the
-- cell that is left is read as that cell
pub record IsOrderedRun (c : Cell) (out order : List ℕ) (commands : List (List Command)) (files : Option Files) (task : Task) : Type 0 where
  pub sessions : List ℕ
  pub told : IfSome files (λ fs. OrderIs (quotas_of commands) order fs (Ok sessions))
  pub is : task ≡ run_task c out commands sessions
  pub course : IsCourse c commands sessions
  pub read_back : IsReadBack c commands sessions

-- the same of some scripts, where the files are told those of the files
pub record IsRunOf (c : Cell) (out order : List ℕ) (scripts : List (List ℕ)) (files : Option Files) (task : Task) : Type 0 where
  pub commands : List (List Command)
  pub told : IfSome files (λ fs. ScriptsAre scripts fs (Ok commands))
  pub run : IsOrderedRun c out order commands files task

-- no other order of these sessions has a line with which a text begins
abbrev pub IsOnlyOrder : List ℕ → List ℕ → List ℕ → Type 0
IsOnlyOrder quotas sessions text = (others : List ℕ) → IsOrder quotas others → IsPrefix (order_line others) text → others ≡ sessions

-- a run of sessions in threads on a cell: it is one in some order of the sessions, the only one whose line begins the report, it takes its course,
-- and the file of the cell that is left is read as that cell
pub record IsRunInRoom (c : Cell) (out : List ℕ) (commands : List (List Command)) (task : Task) : Type 0 where
  pub sessions : List ℕ
  pub order : IsOrder (quotas_of commands) sessions
  pub is : task ≡ run_task c out commands sessions
  pub begins : IsPrefix (order_line sessions) task.text
  pub only : IsOnlyOrder (quotas_of commands) sessions task.text
  pub course : IsCourse c commands sessions
  pub read_back : IsReadBack c commands sessions

-- the same of some scripts, where the files are told those of the files
pub record IsRoomRun (c : Cell) (out : List ℕ) (scripts : List (List ℕ)) (files : Option Files) (task : Task) : Type 0 where
  pub commands : List (List Command)
  pub told : IfSome files (λ fs. ScriptsAre scripts fs (Ok commands))
  pub run : IsRunInRoom c out commands task

-- a file to which a call comes behind a good cell: a script, or the order behind good scripts
abbrev pub IsReachedInRun : List ℕ → List (List ℕ) → Files → List ℕ → Type 0
IsReachedInRun order scripts files name = IsReachedScript scripts files name
    ⊎ ((commands : List (List Command)) × ScriptsAre scripts files (Ok commands) × (name ≡ order))

-- an input file to which a call comes: all before it in the order of refusals are good
abbrev pub IsReached : Form → Files → List ℕ → Type 0
IsReached (check_form cell) files name = name ≡ cell
IsReached (replay_form cell out order scripts) files name = (name ≡ cell) ⊎ ((c : Cell) × CellIs cell files (Ok c) × IsReachedInRun order scripts files name)
IsReached (room_form cell out scripts) files name = (name ≡ cell) ⊎ ((c : Cell) × CellIs cell files (Ok c) × IsReachedScript scripts files name)
IsReached (make_form n out) files name = ⊥
IsReached (drill_form n sessions) files name = ⊥
IsReached (edge_form cell out operation) files name = name ≡ cell
IsReached (probe_form cell at) files name = name ≡ cell
IsReached (apply_form cell out update) files name = (name ≡ cell) ⊎ ((c : Cell) × CellIs cell files (Ok c) × (name ≡ update))
IsReached no_form files name = ⊥

-- the input files of a form; OUT is none
abbrev pub IsInputOf : Form → List ℕ → Type 0
IsInputOf (check_form cell) name = name ≡ cell
IsInputOf (replay_form cell out order scripts) name = (name ≡ cell) ⊎ ((name ≡ order) ⊎ IsAmong scripts name)
IsInputOf (room_form cell out scripts) name = (name ≡ cell) ⊎ IsAmong scripts name
IsInputOf (make_form n out) name = ⊥
IsInputOf (drill_form n sessions) name = ⊥
IsInputOf (edge_form cell out operation) name = name ≡ cell
IsInputOf (probe_form cell at) name = name ≡ cell
IsInputOf (apply_form cell out update) name = (name ≡ cell) ⊎ (name ≡ update)
IsInputOf no_form name = ⊥
