-- What each status of a session over a journal tells of the words, and of the outside before and after. This project's own.
use Rattle.std.specs.Prelude.{◌≡◌, ◌⊎◌, ℕ, ◌≤◌, List, length, Option, None, Some, Result, Ok, Err, IfSome}
use Rattle.enc_outside.specs.Count.{Rose}
use Rattle.enc_outside.specs.Files.{Files, Told}
use Rattle.s57_types.specs.declared.cell.Cell.{Cell}
use Rattle.file_spec.specs.DecodedCell.{decoded_cell}
use Rattle.file_spec.specs.EncodedCell.{encoded_cell}
use Rattle.text_spec.specs.declared.command.Command.{Command}
use Rattle.history_spec.specs.Steps.{AcceptedCommit}
use Rattle.book_journal.specs.Journals.{IsDamagedAt, IsJournalOf}
use Rattle.book_journal.specs.Keeping.{commit_limit}
use Rattle.call_files.specs.Inputs.{AndThen, CellIs, ScriptIs}
use Rattle.call_files.specs.Outside.{IsCut, IsFinished, IsSilent, IsSmooth, Outside}
use Rattle.call_files.specs.Task.{Task, task_of}
use Rattle.call_files.specs.declared.work.Work.{Work}
use Rattle.report_text.specs.declared.status.Status.{Status}
use Rattle.report_text.specs.declared.status.Status.TheVariants.{Done, Usage, Absent, BadCell, BadScript, ReadFault, WriteFault, TooLarge, NoMemory}
use Rattle.report_text.specs.declared.status.Status.TheVariants.{TooManyFindings, BadJournal, DiskFault, JournalFull}
use Rattle.keep_run.specs.Keeps.{IsKeptImage, IsLeftWith, IsTooLong}
use Rattle.keep_run.specs.Runs.{kept_history, kept_text}
use Rattle.keep_run.specs.Words.{KeepForm, form_of}
use Rattle.keep_run.specs.declared.report.Kept.{Kept}

-- the text of a script over the commits of a journal is put, and the cell that is left is written under a name
abbrev pub kept_task : List ℕ → Cell → List AcceptedCommit → List Command → Task
kept_task out c commits script =
    record { text = kept_text c commits script; file = Some (out, encoded_cell (kept_history c commits script).cell) }

-- what is left of a session to put and to write under a name, with a file that is read back, or why there is nothing
abbrev pub IsWorkOf : List ℕ → Result Kept Status → Result Work Status → Type 0
IsWorkOf out (Ok kept) (Ok work) = (task_of work ≡ record { text = kept.text.items; file = Some (out, encoded_cell kept.bench) })
    × (decoded_cell (encoded_cell kept.bench) ≡ Ok kept.bench)
IsWorkOf out (Ok kept) (Err status) = status ≡ NoMemory
IsWorkOf out (Err why) (Ok work) = ⊥
IsWorkOf out (Err why) (Err status) = status ≡ why

-- files were only read
pub record OnlyReads (before after : Option Files) (reads reads_now writes writes_now : ℕ) : Type 0 where
  pub files : after ≡ before
  pub read_faults : reads ≤ reads_now
  pub write_faults : writes_now ≡ writes

-- the cell and the script of the files, or the status at which they end the call
abbrev pub InputIs : KeepForm → Files → Result (Cell × List Command) Status → Type 0
InputIs form files = AndThen (CellIs form.cell files) (λ c. AndThen (ScriptIs 1 form.script files) (λ script answer. answer ≡ Ok (c, script)))

-- the commits of a journal, not too many, or the status
abbrev pub JournalIs : Cell → List ℕ → Result (List AcceptedCommit) Status → Type 0
JournalIs c file (Ok commits) = IsJournalOf c file commits × (length commits ≤ commit_limit)
JournalIs c file (Err (BadJournal place)) = IsDamagedAt c file place
JournalIs c file (Err (JournalFull count)) = IsTooLong c file count
JournalIs c file (Err other) = ⊥

-- what words, files and the bytes of the journal ask for
abbrev pub KeepIs : KeepForm → Files → List ℕ → Result Task Status → Type 0
KeepIs form files file = AndThen (InputIs form files) (λ given. AndThen (JournalIs given.0 file)
    (λ commits answer. answer ≡ Ok (kept_task form.out given.0 commits given.1)))

-- a cell and a script, those of the files where these are told
pub record AreGiven (form : KeepForm) (files : Option Files) (c : Cell) (script : List Command) : Type 0 where
  pub cell_is : IfSome files (λ fs. CellIs form.cell fs (Ok c))
  pub script_is : IfSome files (λ fs. ScriptIs 1 form.script fs (Ok script))

-- a script was run over the commits of the journal that the disk had, where it tells its bytes: what ends the call so is known of its task, and the
-- disk has these commits and all that the script has accepted now, and nothing else after a crash
pub record IsRunOf (form : KeepForm) (files : Option Files) (content now : Option (List ℕ)) (images : List ℕ → Type 0) (Ends : Task → Type 0) : Type 0 where
  pub start : Cell
  pub script : List Command
  pub commits : List AcceptedCommit
  pub given : AreGiven form files start script
  pub journal : IfSome content (λ file. IsJournalOf start file commits)
  pub few : length commits ≤ commit_limit
  pub ends : Ends (kept_task form.out start commits script)
  pub read_back : decoded_cell (encoded_cell (kept_history start commits script).cell) ≡ Ok (kept_history start commits script).cell
  pub left : IsLeftWith start (kept_history start commits script).commits now images

-- the disk's journal ends the call, behind a good cell and a good script, and the disk's bytes are as they were
pub record IsJournalEnd (form : KeepForm) (files : Option Files) (content now : Option (List ℕ)) (Ends : Cell → List ℕ → Type 0) : Type 0 where
  pub start : Cell
  pub script : List Command
  pub given : AreGiven form files start script
  pub ends : IfSome content (Ends start)
  pub same : now ≡ content

-- a call of the disk failed, behind a good cell and a good script
pub record IsDiskEnd (form : KeepForm) (files : Option Files) (faults faults_now : ℕ) : Type 0 where
  pub start : Cell
  pub script : List Command
  pub given : AreGiven form files start script
  pub rose : Rose faults faults_now

-- the count of the disk's failed calls stays, unless the status tells of one
abbrev pub EndTellsDisk : (faults faults_now : ℕ) → Status → Type 0
EndTellsDisk faults faults_now DiskFault = Unit {0}
EndTellsDisk faults faults_now status = faults_now ≡ faults

abbrev pub TellsDisk : {A : Type 0} → (faults faults_now : ℕ) → Result A Status → Type 0
TellsDisk faults faults_now (Ok a) = faults_now ≡ faults
TellsDisk faults faults_now (Err status) = EndTellsDisk faults faults_now status

-- the input files, and those to which a call comes: the script behind a good cell
abbrev pub IsInputOf : KeepForm → List ℕ → Type 0
IsInputOf form name = (name ≡ form.cell) ⊎ (name ≡ form.script)

abbrev pub IsReached : KeepForm → Files → List ℕ → Type 0
IsReached form files name = (name ≡ form.cell) ⊎ ((c : Cell) × CellIs form.cell files (Ok c) × (name ≡ form.script))

abbrev pub IsInputEnd : KeepForm → Option Files → Status → Type 0
IsInputEnd form files status = IfSome files (λ fs. InputIs form fs (Err status))

-- the work that the words ask for, or the status at which the call ends: what the disk told of its bytes before and now, how often its calls had
-- failed, and what a crash leaves now
abbrev pub IsAskedOf : KeepForm → Option Files → (reads reads_now : ℕ) → (content now : Option (List ℕ)) → (faults faults_now : ℕ) → (List ℕ → Type 0)
    → Result Work Status → Type 0
IsAskedOf form files reads reads_now content now faults faults_now images (Ok work) = IsRunOf form files content now images (λ task. task_of work ≡ task)
IsAskedOf form files reads reads_now content now faults faults_now images (Err (Absent name)) = IsInputOf form name × IsInputEnd form files (Absent name)
IsAskedOf form files reads reads_now content now faults faults_now images (Err (BadCell fault)) = IsInputEnd form files (BadCell fault)
IsAskedOf form files reads reads_now content now faults faults_now images (Err (BadScript session line code)) =
    IsInputEnd form files (BadScript session line code)
IsAskedOf form files reads reads_now content now faults faults_now images (Err (ReadFault name)) =
    IsInputOf form name × Rose reads reads_now × IfSome files (λ fs. IsReached form fs name)
IsAskedOf form files reads reads_now content now faults faults_now images (Err (TooLarge name)) = IsInputOf form name × IsInputEnd form files (TooLarge name)
IsAskedOf form files reads reads_now content now faults faults_now images (Err NoMemory) = Unit {0}
IsAskedOf form files reads reads_now content now faults faults_now images (Err TooManyFindings) = IsInputEnd form files TooManyFindings
IsAskedOf form files reads reads_now content now faults faults_now images (Err (BadJournal place)) =
    IsJournalEnd form files content now (λ c file. IsDamagedAt c file place)
IsAskedOf form files reads reads_now content now faults faults_now images (Err DiskFault) = IsDiskEnd form files faults faults_now
IsAskedOf form files reads reads_now content now faults faults_now images (Err (JournalFull count)) =
    IsJournalEnd form files content now (λ c file. IsTooLong c file count)
IsAskedOf form files reads reads_now content now faults faults_now images (Err other) = ⊥

-- words of no form: as many reads had failed before as after
abbrev pub IsAskedIn : Option KeepForm → Option Files → (reads reads_now : ℕ) → (content now : Option (List ℕ)) → (faults faults_now : ℕ) → (List ℕ → Type 0)
    → Result Work Status → Type 0
IsAskedIn None files reads reads_now content now faults faults_now images (Err Usage) = reads_now ≡ reads
IsAskedIn None files reads reads_now content now faults faults_now images other = ⊥
IsAskedIn (Some form) files reads reads_now content now faults faults_now images result =
    IsAskedOf form files reads reads_now content now faults faults_now images result

-- the cause of each status
abbrev pub IsCauseOf : KeepForm → (before after : Outside) → (content now : Option (List ℕ)) → (faults faults_now : ℕ) → (List ℕ → Type 0) → Status → Type 0
IsCauseOf form before after content now faults faults_now images Done =
    IsRunOf form before.files content now images (λ task. IsFinished task before after)
IsCauseOf form before after content now faults faults_now images WriteFault =
    IsRunOf form before.files content now images (λ task. IsCut task before after)
IsCauseOf form before after content now faults faults_now images Usage = ⊥
IsCauseOf form before after content now faults faults_now images status = IsSilent before after
    × IsAskedOf form before.files before.read_faults after.read_faults content now faults faults_now images (Err status)

abbrev pub IsCauseIn : Option KeepForm → (before after : Outside) → (content now : Option (List ℕ)) → (faults faults_now : ℕ) → (List ℕ → Type 0) → Status →
    Type 0
IsCauseIn None before after content now faults faults_now images status =
    (status ≡ Usage) × IsSilent before after × (after.read_faults ≡ before.read_faults)
IsCauseIn (Some form) before after content now faults faults_now images status = IsCauseOf form before after content now faults faults_now images status

abbrev pub IsCause : List (List ℕ) → (before after : Outside) → (content now : Option (List ℕ)) → (faults faults_now : ℕ) → (List ℕ → Type 0) → Status → Type 0
IsCause words = IsCauseIn (form_of words)

-- where files and bytes are told and no device failed, the status is the one that words, files and bytes ask for, unless memory ran out
abbrev pub IsExpectedOf : KeepForm → Files → List ℕ → Status → Type 0
IsExpectedOf form files file Done = (task : Task) × KeepIs form files file (Ok task)
IsExpectedOf form files file status = KeepIs form files file (Err status)

abbrev pub IsExpectedIn : Option KeepForm → Files → List ℕ → Status → Type 0
IsExpectedIn None files file status = status ≡ Usage
IsExpectedIn (Some form) files file status = IsExpectedOf form files file status

abbrev pub IsExact : List (List ℕ) → (before after : Outside) → (content : Option (List ℕ)) → (faults faults_now : ℕ) → Status → Type 0
IsExact words before after content faults faults_now status = (files : Files) (file : List ℕ) → IsSmooth before after files → content ≡ Some file
    → ¬ (Rose faults faults_now) → IsExpectedIn (form_of words) files file status ⊎ (status ≡ NoMemory)

-- the bytes of OUT are read as the cell that the script leaves
pub record IsReadBackAs (form : KeepForm) (file : List ℕ) (old new : Files) : Type 0 where
  pub start : Cell
  pub cell_is : CellIs form.cell old (Ok start)
  pub script : List Command
  pub script_is : ScriptIs 1 form.script old (Ok script)
  pub commits : List AcceptedCommit
  pub journal : IsJournalOf start file commits
  pub bytes : List ℕ
  pub there : new form.out ≡ Some bytes
  pub decoded : decoded_cell bytes ≡ Ok (kept_history start commits script).cell

abbrev pub IsReadBackIn : Option KeepForm → List ℕ → Files → Files → Type 0
IsReadBackIn None file old new = ⊥
IsReadBackIn (Some form) file old new = IsReadBackAs form file old new

abbrev pub IsReadBackFrom : List (List ℕ) → (files files_now : Option Files) → (content : Option (List ℕ)) → Status → Type 0
IsReadBackFrom words files files_now content status = status ≡ Done → IfSome content (λ file. Told (IsReadBackIn (form_of words) file) files files_now)

-- what a crash leaves at a moment of the call: what a crash before it might have left, or what is read so; or the commits of the journal and the first
-- of those that the script has accepted
pub record IsImageBy (form : KeepForm) (files : Option Files) (file : List ℕ) (images : List ℕ → Type 0) (image : List ℕ) : Type 0 where
  pub start : Cell
  pub script : List Command
  pub given : AreGiven form files start script
  pub is : IsKeptImage start script file images image

abbrev pub IsImageIn : Option KeepForm → Option Files → List ℕ → (List ℕ → Type 0) → List ℕ → Type 0
IsImageIn None files file images image = images image
IsImageIn (Some form) files file images image = images image ⊎ IsImageBy form files file images image

abbrev pub IsImageOf : List (List ℕ) → Option Files → List ℕ → (List ℕ → Type 0) → List ℕ → Type 0
IsImageOf words = IsImageIn (form_of words)

-- the statuses at which the call ends before the disk is asked
abbrev pub IsUntouched : Status → Type 0
IsUntouched Usage = Unit {0}
IsUntouched (Absent name) = Unit {0}
IsUntouched (BadCell fault) = Unit {0}
IsUntouched (BadScript session line code) = Unit {0}
IsUntouched (ReadFault name) = Unit {0}
IsUntouched (TooLarge name) = Unit {0}
IsUntouched TooManyFindings = Unit {0}
IsUntouched other = ⊥
