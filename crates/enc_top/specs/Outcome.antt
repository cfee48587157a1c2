-- What each status of a call tells of the words, and of the outside before and after.
use Rattle.std.specs.Prelude.{◌≡◌, ◌⊎◌, ℕ, ◌≤◌, List, length, count_by, Option, Some, Result, Ok, Err, IfSome}
use Rattle.enc_outside.specs.Count.{Rose}
use Rattle.enc_outside.specs.Files.{Files, Told}
use Rattle.cell_make.specs.GeneratedCell.{generated_cell}
use Rattle.file_spec.specs.DecodedCell.{decoded_cell}
use Rattle.file_spec.specs.EncodedCell.{encoded_cell}
use Rattle.geometry_spec.specs.Points.{Point}
use Rattle.history_spec.specs.ReportText.{final_cell}
use Rattle.s57_types.specs.declared.cell.Cell.{Cell}
use Rattle.history_spec.specs.Sessions.{script_of}
use Rattle.skin_probe.specs.Sheet.{sheet_of}
use Rattle.skin_probe.specs.WindingLaws.{AreSumsByEdges}
use Rattle.text_spec.specs.OrderLine.{IsOrder, order_line}
use Rattle.text_spec.specs.ScriptLines.{is_shared}
use Rattle.text_spec.specs.declared.command.Command.{Command}
use Rattle.room_laws.specs.Orders.{quotas_of}
use Rattle.enc_top.specs.declared.operation.Operation.{Operation}
use Rattle.enc_top.specs.Commits.{IsTooLarge}
use Rattle.enc_top.specs.Operations.{OperationKeeps, operated}
use Rattle.enc_top.specs.Updates.{updated}
use Rattle.update_spec.specs.UpdatedCell.{updated_cell}
use Rattle.call_files.specs.Inputs.{CellIs, FileIs, OrderIs, ScriptsAre, cell_limit}
use Rattle.enc_top.specs.Inputs.{IsInputOf, IsReached, IsRoomRun, IsRunOf, OutputIs, drill_answer}
use Rattle.enc_top.specs.Output.{AddsFrom}
use Rattle.call_files.specs.Task.{Task, task_of}
use Rattle.enc_top.specs.Task.{check_task, left_task, make_task, probe_task}
use Rattle.enc_top.specs.Words.{Form, check_form, replay_form, room_form, make_form, drill_form, edge_form, probe_form, apply_form, no_form, form_of}
use Rattle.report_text.specs.declared.status.Status.{Status}
use Rattle.report_text.specs.declared.status.Status.TheVariants.{Done, Usage, Absent, BadCell, BadScript, ReadFault, WriteFault, TooLarge, NoMemory}
use Rattle.report_text.specs.declared.status.Status.TheVariants.{BadOrder, Stuck, TooManyFindings, BadUpdate, Refused, BadJournal, DiskFault, OpRefused}
use Rattle.report_text.specs.declared.status.Status.TheVariants.{JournalFull}
use Rattle.call_files.specs.declared.work.Work.{Work}
use Rattle.call_files.specs.Outside.{IsCut, IsFinished, IsSilent, IsSmooth, Outside}

-- the words are in one of the forms
abbrev pub IsBuilt : Form → Type 0
IsBuilt (check_form cell) = Unit {0}
IsBuilt (replay_form cell out order scripts) = Unit {0}
IsBuilt (room_form cell out scripts) = Unit {0}
IsBuilt (make_form n out) = Unit {0}
IsBuilt (drill_form n sessions) = Unit {0}
IsBuilt (edge_form cell out operation) = Unit {0}
IsBuilt (probe_form cell at) = Unit {0}
IsBuilt (apply_form cell out update) = Unit {0}
IsBuilt no_form = ⊥

-- the words are in one of the forms; where it has no input files, as many reads had failed before as after
abbrev pub IsBuiltFor : Form → ℕ → ℕ → Type 0
IsBuiltFor (make_form n out) before after = after ≡ before
IsBuiltFor (drill_form n sessions) before after = after ≡ before
IsBuiltFor form before after = IsBuilt form

-- the text of a cell, where the files are told that of the file
pub record IsCheckOf (cell : List ℕ) (files : Option Files) (task : Task) : Type 0 where
  pub start : Cell
  pub told : IfSome files (λ fs. CellIs cell fs (Ok start))
  pub is : task ≡ check_task start

-- the report of scripts on a cell in an order, where the files are told those of the files, and the cell that is left
pub record IsReplayOf (cell out order : List ℕ) (scripts : List (List ℕ)) (files : Option Files) (task : Task) : Type 0 where
  pub start : Cell
  pub told : IfSome files (λ fs. CellIs cell fs (Ok start))
  pub run : IsRunOf start out order scripts files task

-- the report of scripts on a cell, each in a thread of its own, where the files are told those of the files, and the cell that is left
pub record IsRoomOf (cell out : List ℕ) (scripts : List (List ℕ)) (files : Option Files) (task : Task) : Type 0 where
  pub start : Cell
  pub told : IfSome files (λ fs. CellIs cell fs (Ok start))
  pub run : IsRoomRun start out scripts files task

-- the line of a generated cell, whose file is read as that cell
pub record IsMakeOf (n : ℕ) (out : List ℕ) (task : Task) : Type 0 where
  pub is : task ≡ make_task n out
  pub read_back : decoded_cell (encoded_cell (generated_cell n)) ≡ Ok (generated_cell n)

-- the cell that an operation leaves keeps where each feature runs, and its file is read as that cell
pub record IsLeftBy (start left : Cell) (operation : Operation) : Type 0 where
  pub is_left : operated start operation ≡ Ok left
  pub kept : OperationKeeps start left operation
  pub read_back : decoded_cell (encoded_cell left) ≡ Ok left

-- the text of the cell that an operation leaves, where the files are told that of the file, and that cell
pub record IsEdgeWorkOf (cell out : List ℕ) (operation : Operation) (files : Option Files) (task : Task) : Type 0 where
  pub start : Cell
  pub told : IfSome files (λ fs. CellIs cell fs (Ok start))
  pub left : Cell
  pub left_by : IsLeftBy start left operation
  pub is : task ≡ left_task left out

-- the cell that an update file leaves of a cell is the one that its records make, and its file is read as that cell
pub record IsUpdatedBy (start left : Cell) (bytes : List ℕ) : Type 0 where
  pub is_left : updated start bytes ≡ Ok left
  pub cell_is : updated_cell start bytes ≡ Ok left
  pub read_back : decoded_cell (encoded_cell left) ≡ Ok left

-- the text of that cell, where the files are told that of the cell file and that of the update file, and that cell
pub record IsUpdateWorkOf (cell out update : List ℕ) (files : Option Files) (task : Task) : Type 0 where
  pub start : Cell
  pub told : IfSome files (λ fs. CellIs cell fs (Ok start))
  pub bytes : List ℕ
  pub given : IfSome files (λ fs. FileIs cell_limit update fs (Ok bytes))
  pub left : Cell
  pub left_by : IsUpdatedBy start left bytes
  pub is : task ≡ left_task left out

-- what is told of the areas of a cell round a point. The two sums are sums over the edges of the cell, and equal where no side is unbalanced
pub record IsProbeIn (start : Cell) (at : Point) (task : Task) : Type 0 where
  pub is : task ≡ probe_task start at
  pub by_edges : AreSumsByEdges start at (sheet_of start at).sums
  pub balanced : (sheet_of start at).unbalanced ≡ 0 → (sheet_of start at).sums.0 ≡ (sheet_of start at).sums.1

-- the same, where the files are told, of the cell of the file
pub record IsProbeOf (cell : List ℕ) (at : Point) (files : Option Files) (task : Task) : Type 0 where
  pub start : Cell
  pub told : IfSome files (λ fs. CellIs cell fs (Ok start))
  pub probe : IsProbeIn start at task

-- what the form may do: put the text of a cell, or the report of scripts on a cell in an order and then write the cell that is left
abbrev pub IsOutput : Form → Option Files → Task → Type 0
IsOutput (check_form cell) files task = IsCheckOf cell files task
IsOutput (replay_form cell out order scripts) files task = IsReplayOf cell out order scripts files task
IsOutput (room_form cell out scripts) files task = IsRoomOf cell out scripts files task
IsOutput (make_form n out) files task = IsMakeOf n out task
IsOutput (drill_form n sessions) files task = drill_answer n sessions ≡ Ok task
IsOutput (edge_form cell out operation) files task = IsEdgeWorkOf cell out operation files task
IsOutput (probe_form cell at) files task = IsProbeOf cell at files task
IsOutput (apply_form cell out update) files task = IsUpdateWorkOf cell out update files task
IsOutput no_form files task = ⊥

-- what a form asks for: by its words alone where it has no input files, and then as many reads had failed before as after; by the files otherwise, where
-- these are told
abbrev pub Asks : Form → Option Files → (before after : ℕ) → Result Task Status → Type 0
Asks (make_form n out) files before after answer = (answer ≡ Ok (make_task n out)) × (after ≡ before)
Asks (drill_form n sessions) files before after answer = (answer ≡ drill_answer n sessions) × (after ≡ before)
Asks no_form files before after answer = (answer ≡ Err Usage) × (after ≡ before)
Asks form files before after answer = IfSome files (λ fs. OutputIs form fs answer)

-- this is what the words and the files before the call ask for
abbrev pub IsAsked : Outside → Outside → Form → Result Task Status → Type 0
IsAsked before after form answer = Asks form before.files before.read_faults after.read_faults answer

-- a form whose files end the call so, before anything is written
abbrev pub IsRefused : Form → Outside → Outside → Status → Type 0
IsRefused form before after status = IsBuilt form × IsSilent before after × IsAsked before after form (Err status)

-- a session of a room was stuck before one of its views and commits, after nothing was put: where the files are told, these are of the script of
-- that session
pub record IsStuckIn (cell : List ℕ) (scripts : List (List ℕ)) (desk serial : ℕ) (files : Files) : Type 0 where
  pub start : Cell
  pub cell_is : CellIs cell files (Ok start)
  pub commands : List (List Command)
  pub scripts_are : ScriptsAre scripts files (Ok commands)
  pub within : serial ≤ count_by is_shared (script_of commands desk)

abbrev pub IsStuckAt : Form → Option Files → ℕ → ℕ → Type 0
IsStuckAt (room_form cell out scripts) files desk serial = (1 ≤ desk) × (desk ≤ length scripts) × (1 ≤ serial)
    × IfSome files (IsStuckIn cell scripts desk serial)
IsStuckAt other files desk serial = ⊥

-- the words name scripts
abbrev pub HasScripts : Form → Type 0
HasScripts (replay_form cell out order scripts) = Unit {0}
HasScripts (room_form cell out scripts) = Unit {0}
HasScripts other = ⊥

-- the words name an order
abbrev pub HasOrder : Form → Type 0
HasOrder (replay_form cell out order scripts) = Unit {0}
HasOrder other = ⊥

-- the words ask for an operation on edges
abbrev pub IsOnEdges : Form → Type 0
IsOnEdges (edge_form cell out operation) = Unit {0}
IsOnEdges other = ⊥

-- the words ask for an update
abbrev pub IsOfUpdate : Form → Type 0
IsOfUpdate (apply_form cell out update) = Unit {0}
IsOfUpdate other = ⊥

-- the words ask for one commit, of an operation or of an update
abbrev pub IsOneCommit : Form → Type 0
IsOneCommit (edge_form cell out operation) = Unit {0}
IsOneCommit (apply_form cell out update) = Unit {0}
IsOneCommit other = ⊥

-- `sticks`: whether a rendezvous may give up
abbrev pub IsCauseOf : Type 0 → Form → Outside → Outside → Status → Type 0
IsCauseOf sticks form before after Done = (task : Task) × IsOutput form before.files task × IsAsked before after form (Ok task)
    × IsFinished task before after
IsCauseOf sticks form before after Usage = (form ≡ no_form) × IsSilent before after × (after.read_faults ≡ before.read_faults)
IsCauseOf sticks form before after (Absent name) = IsInputOf form name × IsRefused form before after (Absent name)
IsCauseOf sticks form before after (BadCell fault) = IsRefused form before after (BadCell fault)
IsCauseOf sticks form before after (BadScript session line code) = HasScripts form × IsRefused form before after (BadScript session line code)
IsCauseOf sticks form before after (ReadFault name) = IsInputOf form name × IsSilent before after × Rose before.read_faults after.read_faults
    × IfSome before.files (λ files. IsReached form files name)
IsCauseOf sticks form before after WriteFault = (task : Task) × IsOutput form before.files task × IsAsked before after form (Ok task)
    × IsCut task before after
IsCauseOf sticks form before after (TooLarge name) = IsInputOf form name × IsRefused form before after (TooLarge name)
IsCauseOf sticks form before after NoMemory = IsBuiltFor form before.read_faults after.read_faults × IsSilent before after
IsCauseOf sticks form before after (BadOrder place) = HasOrder form × IsRefused form before after (BadOrder place)
IsCauseOf sticks form before after TooManyFindings = IsRefused form before after TooManyFindings
IsCauseOf sticks form before after (BadUpdate fault) = IsOfUpdate form × IsRefused form before after (BadUpdate fault)
IsCauseOf sticks form before after (Refused refusal) = IsOneCommit form × IsTooLarge refusal × IsRefused form before after (Refused refusal)
IsCauseOf sticks form before after (BadJournal place) = ⊥
IsCauseOf sticks form before after DiskFault = ⊥
IsCauseOf sticks form before after (OpRefused cause) = IsOnEdges form × IsRefused form before after (OpRefused cause)
IsCauseOf sticks form before after (JournalFull count) = ⊥
IsCauseOf sticks form before after (Stuck desk serial) = sticks × IsSilent before after × IsStuckAt form before.files desk serial

abbrev pub IsCause : Type 0 → List (List ℕ) → Outside → Outside → Status → Type 0
IsCause sticks words = IsCauseOf sticks (form_of words)

abbrev pub IsExpected : Form → Files → Status → Type 0
IsExpected form files Done = (task : Task) × OutputIs form files (Ok task)
IsExpected form files status = OutputIs form files (Err status)

abbrev pub IsExact : Type 0 → List (List ℕ) → Outside → Outside → Status → Type 0
IsExact sticks words before after status = (files : Files) → IsSmooth before after files → ¬ sticks → IsExpected (form_of words) files status
    ⊎ (status ≡ NoMemory)

-- where all is done, and the files are told before and after, the bytes of OUT are read as the cell that the run leaves
pub record IsOutReadBack (cell out order : List ℕ) (scripts : List (List ℕ)) (old new : Files) : Type 0 where
  pub start : Cell
  pub cell_is : CellIs cell old (Ok start)
  pub commands : List (List Command)
  pub scripts_are : ScriptsAre scripts old (Ok commands)
  pub sessions : List ℕ
  pub order_is : OrderIs (quotas_of commands) order old (Ok sessions)
  pub bytes : List ℕ
  pub there : new out ≡ Some bytes
  pub decoded : decoded_cell bytes ≡ Ok (final_cell start commands sessions)

-- the same of sessions in threads, in the order whose line begins the report that was put
pub record IsRoomReadBack (cell out : List ℕ) (scripts : List (List ℕ)) (before after : Outside) (old new : Files) : Type 0 where
  pub start : Cell
  pub cell_is : CellIs cell old (Ok start)
  pub commands : List (List Command)
  pub scripts_are : ScriptsAre scripts old (Ok commands)
  pub sessions : List ℕ
  pub order : IsOrder (quotas_of commands) sessions
  pub line : Told (AddsFrom (order_line sessions)) before.written after.written
  pub bytes : List ℕ
  pub there : new out ≡ Some bytes
  pub decoded : decoded_cell bytes ≡ Ok (final_cell start commands sessions)

-- the same of a generated cell
pub record IsMadeReadBack (n : ℕ) (out : List ℕ) (new : Files) : Type 0 where
  pub bytes : List ℕ
  pub there : new out ≡ Some bytes
  pub decoded : decoded_cell bytes ≡ Ok (generated_cell n)

-- where an operation on edges is done, the bytes of OUT are read as a cell in which each feature runs where it ran
pub record IsEdgeReadBack (cell out : List ℕ) (operation : Operation) (old new : Files) : Type 0 where
  pub start : Cell
  pub cell_is : CellIs cell old (Ok start)
  pub left : Cell
  pub is_left : operated start operation ≡ Ok left
  pub kept : OperationKeeps start left operation
  pub bytes : List ℕ
  pub there : new out ≡ Some bytes
  pub decoded : decoded_cell bytes ≡ Ok left

-- where an update is applied, the bytes of OUT are read as the cell that its records make of the file's cell
pub record IsUpdateReadBack (cell out update : List ℕ) (old new : Files) : Type 0 where
  pub start : Cell
  pub cell_is : CellIs cell old (Ok start)
  pub given : List ℕ
  pub update_is : FileIs cell_limit update old (Ok given)
  pub left : Cell
  pub is_left : updated_cell start given ≡ Ok left
  pub bytes : List ℕ
  pub there : new out ≡ Some bytes
  pub decoded : decoded_cell bytes ≡ Ok left

abbrev pub IsFormReadBack : Form → Outside → Outside → Files → Files → Type 0
IsFormReadBack (replay_form cell out order scripts) before after old new = IsOutReadBack cell out order scripts old new
IsFormReadBack (room_form cell out scripts) before after old new = IsRoomReadBack cell out scripts before after old new
IsFormReadBack (make_form n out) before after old new = IsMadeReadBack n out new
IsFormReadBack (edge_form cell out operation) before after old new = IsEdgeReadBack cell out operation old new
IsFormReadBack (apply_form cell out update) before after old new = IsUpdateReadBack cell out update old new
IsFormReadBack other before after old new = Unit {0}

abbrev pub IsReadBackFrom : List (List ℕ) → Outside → Outside → Status → Type 0
IsReadBackFrom words before after status = status ≡ Done → Told (IsFormReadBack (form_of words) before after) before.files after.files

-- the work that a form asks for, or the status at which it ends
abbrev pub IsAskedBy : Type 0 → Form → Option Files → ℕ → ℕ → Result Work Status → Type 0
IsAskedBy sticks form files before after (Ok work) = IsOutput form files (task_of work) × Asks form files before after (Ok (task_of work))
IsAskedBy sticks form files before after (Err Usage) = (form ≡ no_form) × (after ≡ before)
IsAskedBy sticks form files before after (Err (ReadFault name)) = IsInputOf form name × Rose before after × IfSome files (λ fs. IsReached form fs name)
IsAskedBy sticks form files before after (Err NoMemory) = IsBuiltFor form before after
IsAskedBy sticks form files before after (Err (Absent name)) = IsInputOf form name × IsBuilt form × Asks form files before after (Err (Absent name))
IsAskedBy sticks form files before after (Err (BadCell fault)) = IsBuilt form × Asks form files before after (Err (BadCell fault))
IsAskedBy sticks form files before after (Err (BadScript session line code)) =
    HasScripts form × IsBuilt form × Asks form files before after (Err (BadScript session line code))
IsAskedBy sticks form files before after (Err (TooLarge name)) = IsInputOf form name × IsBuilt form
    × Asks form files before after (Err (TooLarge name))
IsAskedBy sticks form files before after (Err (BadOrder place)) = HasOrder form × IsBuilt form × Asks form files before after (Err (BadOrder place))
IsAskedBy sticks form files before after (Err TooManyFindings) = IsBuilt form × Asks form files before after (Err TooManyFindings)
IsAskedBy sticks form files before after (Err (Stuck desk serial)) = sticks × IsStuckAt form files desk serial
IsAskedBy sticks form files before after (Err (BadUpdate fault)) =
    IsOfUpdate form × IsBuilt form × Asks form files before after (Err (BadUpdate fault))
IsAskedBy sticks form files before after (Err (Refused refusal)) =
    IsOneCommit form × IsTooLarge refusal × IsBuilt form × Asks form files before after (Err (Refused refusal))
IsAskedBy sticks form files before after (Err (OpRefused cause)) =
    IsOnEdges form × IsBuilt form × Asks form files before after (Err (OpRefused cause))
IsAskedBy sticks form files before after (Err other) = ⊥
