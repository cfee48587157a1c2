-- What input files are, or why a call ends there. A relation tells what a step answers where nothing fails. This project's own.
use Rattle.std.specs.Prelude.{◌≡◌, ◌⊎◌, ℕ, ◌+◌, ◌<◌, ◌≤◌, nat_lt, List, [], length, slice_index_or, Option, None, Some, Result, Ok, Err, IfSome, if◌then◌else◌}
use Rattle.enc_outside.specs.Count.{Rose}
use Rattle.enc_outside.specs.Files.{Files}
use Rattle.export_laws.specs.DecodedTypes.{AreFileBytes}
use Rattle.file_spec.specs.DecodedCell.{decoded_cell}
use Rattle.rule_spec.specs.Findings.{finding_total}
use Rattle.s57_types.specs.declared.cell.Cell.{Cell}
use Rattle.s57_types.specs.declared.fault.CellFault.{CellFault}
use Rattle.text_spec.specs.OrderLine.{order_of}
use Rattle.text_spec.specs.ScriptLines.{IsScript}
use Rattle.script_text.specs.Faults.{IsFirstFault}
use Rattle.text_spec.specs.declared.command.Command.{Command}
use Rattle.history_spec.specs.Steps.{finding_limit}
use Rattle.report_text.specs.declared.status.Status.{Status}
use Rattle.report_text.specs.declared.status.Status.TheVariants.{Done, Usage, Absent, BadCell, BadScript, ReadFault, WriteFault, TooLarge, NoMemory}
use Rattle.report_text.specs.declared.status.Status.TheVariants.{BadOrder, Stuck, TooManyFindings, BadUpdate, Refused, BadJournal, DiskFault, OpRefused}
use Rattle.report_text.specs.declared.status.Status.TheVariants.{JournalFull}

-- how many bytes input files may have
abbrev pub cell_limit : ℕ
cell_limit = 16777216

abbrev pub script_limit : ℕ
script_limit = 1048576

abbrev pub order_limit : ℕ
order_limit = 4194304

-- one step and then another with what it gave, or the status at which the first ended
abbrev pub AndThen : {A B : Type 0} → (Result A Status → Type 0) → (A → Result B Status → Type 0) → Result B Status → Type 0
AndThen {A} First Next answer = ((a : A) × First (Ok a) × Next a answer) ⊎ ((status : Status) × First (Err status) × (answer ≡ Err status))

-- a file within its limit
abbrev pub content_of : ℕ → List ℕ → Option (List ℕ) → Result (List ℕ) Status
content_of limit name None = Err (Absent name)
content_of limit name (Some content) = if nat_lt limit (length content) then Err (TooLarge name) else Ok content

abbrev pub FileIs : ℕ → List ℕ → Files → Result (List ℕ) Status → Type 0
FileIs limit name files answer = content_of limit name (files name) ≡ answer

-- a cell with not too many findings
abbrev pub judged_cell : Cell → Result Cell Status
judged_cell c = if nat_lt finding_limit (finding_total c) then Err TooManyFindings else Ok c

abbrev pub judged : Result Cell CellFault → Result Cell Status
judged (Ok c) = judged_cell c
judged (Err fault) = Err (BadCell fault)

-- a file stands for the cell
abbrev pub IsCellOfFile : Cell → Type 0
IsCellOfFile c = (b : List ℕ) × AreFileBytes b × (decoded_cell b ≡ Ok c)

-- the cell that a file stands for, or its first fault
abbrev pub cell_in : List ℕ → Result Cell Status
cell_in bytes = judged (decoded_cell bytes)

abbrev pub CellIs : List ℕ → Files → Result Cell Status → Type 0
CellIs name files = AndThen (FileIs cell_limit name files) (λ bytes answer. cell_in bytes ≡ answer)

-- the script of a session, or its first fault
abbrev pub ScriptIn : ℕ → List ℕ → Result (List Command) Status → Type 0
ScriptIn session bytes (Ok commands) = IsScript bytes commands
ScriptIn session bytes (Err (BadScript number line code)) = (number ≡ session) × IsFirstFault bytes line code
ScriptIn session bytes (Err other) = ⊥

abbrev pub ScriptIs : ℕ → List ℕ → Files → Result (List Command) Status → Type 0
ScriptIs session name files = AndThen (FileIs script_limit name files) (ScriptIn session)

-- the commands of some script that a file may have
abbrev pub IsScriptWithin : List Command → Type 0
IsScriptWithin commands = (text : List ℕ) × IsScript text commands × (length text ≤ script_limit)

-- the scripts of all names, for sessions from 1 on, or the status of the first that has one
pub record AreScripts (names : List (List ℕ)) (files : Files) (scripts : List (List Command)) : Type 0 where
  pub each : (k : ℕ) → k < length scripts → ScriptIs (k + 1) (slice_index_or names k []) files (Ok (slice_index_or scripts k []))

pub record IsFirstBad (names : List (List ℕ)) (files : Files) (status : Status) : Type 0 where
  pub before : List (List Command)
  pub within : length before < length names
  pub good : AreScripts names files before
  pub bad : ScriptIs (length before + 1) (slice_index_or names (length before) []) files (Err status)

abbrev pub ScriptsAre : List (List ℕ) → Files → Result (List (List Command)) Status → Type 0
ScriptsAre names files (Ok scripts) = (length scripts ≡ length names) × AreScripts names files scripts
ScriptsAre names files (Err status) = IsFirstBad names files status

-- an order of the sessions
abbrev pub order_in : Result (List ℕ) ℕ → Result (List ℕ) Status
order_in (Ok order) = Ok order
order_in (Err place) = Err (BadOrder place)

abbrev pub OrderIs : List ℕ → List ℕ → Files → Result (List ℕ) Status → Type 0
OrderIs quotas name files = AndThen (FileIs order_limit name files) (λ bytes answer. order_in (order_of quotas bytes) ≡ answer)

-- a script to which a call comes: those before it are good
pub record IsReachedScript (names : List (List ℕ)) (files : Files) (name : List ℕ) : Type 0 where
  pub before : List (List Command)
  pub within : length before < length names
  pub good : AreScripts names files before
  pub is : name ≡ slice_index_or names (length before) []

-- what a step's answer tells, with what it gave seen through a function: where the files are told, the relation of the step
-- holds of it; a fault of reading comes only with a risen count, and of a file that the step reaches; out of memory is free
abbrev pub Tells : {A B : Type 0} → (A → B) → (Files → Result B Status → Type 0) → (Files → List ℕ → Type 0) → Option Files → ℕ → ℕ → Result A Status → Type 0
Tells seen Step Reached files before after (Ok a) = IfSome files (λ fs. Step fs (Ok (seen a)))
Tells seen Step Reached files before after (Err (ReadFault name)) = Rose before after × IfSome files (λ fs. Reached fs name)
Tells seen Step Reached files before after (Err NoMemory) = Unit {0}
Tells seen Step Reached files before after (Err status) = IfSome files (λ fs. Step fs (Err status))

-- the count of failed reads stays, unless the status tells of one; where memory ran out, one may have failed before
abbrev pub EndTellsReads : (before after : ℕ) → Status → Type 0
EndTellsReads before after (ReadFault name) = Unit {0}
EndTellsReads before after NoMemory = Unit {0}
EndTellsReads before after status = after ≡ before

abbrev pub TellsReads : {A : Type 0} → (before after : ℕ) → Result A Status → Type 0
TellsReads before after (Ok a) = after ≡ before
TellsReads before after (Err status) = EndTellsReads before after status

-- a step that reaches one file alone
abbrev pub IsFile : List ℕ → Files → List ℕ → Type 0
IsFile name files other = other ≡ name

-- the statuses at which input files can end a call; a file that is named is one of them
abbrev pub IsInputStatus : (List ℕ → Type 0) → Status → Type 0
IsInputStatus IsInput Done = ⊥
IsInputStatus IsInput Usage = ⊥
IsInputStatus IsInput (Absent name) = IsInput name
IsInputStatus IsInput (BadCell fault) = Unit {0}
IsInputStatus IsInput (BadScript session line code) = Unit {0}
IsInputStatus IsInput (ReadFault name) = IsInput name
IsInputStatus IsInput WriteFault = ⊥
IsInputStatus IsInput (TooLarge name) = IsInput name
IsInputStatus IsInput NoMemory = Unit {0}
IsInputStatus IsInput (BadOrder place) = Unit {0}
IsInputStatus IsInput (Stuck desk serial) = ⊥
IsInputStatus IsInput TooManyFindings = Unit {0}
IsInputStatus IsInput (BadUpdate fault) = ⊥
IsInputStatus IsInput (Refused refusal) = ⊥
IsInputStatus IsInput (BadJournal place) = ⊥
IsInputStatus IsInput DiskFault = ⊥
IsInputStatus IsInput (OpRefused cause) = ⊥
IsInputStatus IsInput (JournalFull count) = ⊥

-- it isn't that of an order
abbrev pub IsNotOfOrder : Status → Type 0
IsNotOfOrder (BadOrder place) = ⊥
IsNotOfOrder other = Unit {0}

-- it is neither that of a script nor that of an order
abbrev pub IsNotOfText : Status → Type 0
IsNotOfText (BadScript session line code) = ⊥
IsNotOfText (BadOrder place) = ⊥
IsNotOfText other = Unit {0}

-- one of these names
abbrev pub IsAmong : List (List ℕ) → List ℕ → Type 0
IsAmong names name = (k : ℕ) × (k < length names) × (name ≡ slice_index_or names k [])

-- an answer of a judging step: the expected one, or out of memory
abbrev pub IsJudged : {A B : Type 0} → (A → B) → Result B Status → Result A Status → Type 0
IsJudged seen expected (Ok a) = expected ≡ Ok (seen a)
IsJudged seen expected (Err status) = (expected ≡ Err status) ⊎ (status ≡ NoMemory)

abbrev pub IsJudgedScript : ℕ → List ℕ → Result (List Command) Status → Type 0
IsJudgedScript session bytes (Ok commands) = IsScript bytes commands
IsJudgedScript session bytes (Err status) = ScriptIn session bytes (Err status) ⊎ (status ≡ NoMemory)
