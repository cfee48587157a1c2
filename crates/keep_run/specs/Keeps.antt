-- What a session over the journal on a disk gives, why it ends, and what it leaves of the disk. This project's own rules.
use Rattle.std.specs.Prelude.{◌≡◌, ◌⊎◌, ℕ, ◌<◌, ◌≤◌, List, length, Option, IfSome}
use Rattle.s57_types.specs.declared.cell.Cell.{Cell}
use Rattle.enc_outside.specs.Count.{Rose}
use Rattle.text_spec.specs.declared.command.Command.{Command}
use Rattle.history_spec.specs.Steps.{AcceptedCommit}
use Rattle.crash_disk.specs.Disk.{Only}
use Rattle.book_journal.specs.Journals.{IsDamagedAt, IsJournalOf}
use Rattle.book_journal.specs.Keeping.{IsAsBefore, commit_limit}
use Rattle.book_journal.specs.declared.refusal.KeepRefusal.{KeepRefusal}
use Rattle.book_journal.specs.declared.refusal.KeepRefusal.TheVariants as keep_refusal
use Rattle.book_journal.specs.declared.refusal.OpenRefusal.{OpenRefusal}
use Rattle.book_journal.specs.declared.refusal.OpenRefusal.TheVariants as open_refusal
use Rattle.report_text.specs.declared.status.Status.{Status}
use Rattle.report_text.specs.declared.status.Status.TheVariants.{BadJournal, DiskFault, JournalFull, NoMemory}
use Rattle.keep_run.specs.Runs.{IsKeptTo, kept_history, kept_text}
use Rattle.keep_run.specs.declared.report.Kept.{Kept}

-- why a journal isn't opened, where its cell has not too many findings
abbrev pub IsOpenEnd : OpenRefusal → Type 0
IsOpenEnd open_refusal.FindingsFull = ⊥
IsOpenEnd other = Unit {0}

abbrev pub status_of : OpenRefusal → Status
status_of (open_refusal.BadJournal place) = BadJournal place
status_of open_refusal.DiskFault = DiskFault
status_of (open_refusal.JournalFull count) = JournalFull count
status_of open_refusal.FindingsFull = NoMemory
status_of open_refusal.NoMemory = NoMemory

abbrev pub stop_status : KeepRefusal → Status
stop_status keep_refusal.DiskFault = DiskFault
stop_status other = NoMemory

-- the disk's journal is one of these commits, and all of it is kept
abbrev pub IsLeftWith : Cell → List AcceptedCommit → Option (List ℕ) → (List ℕ → Type 0) → Type 0
IsLeftWith c commits now images = IfSome now (λ file. IsJournalOf c file commits × Only file images)

-- the text of a script that was run over the commits of a journal, the cell that it left, and what it leaves of the disk: these commits and all that
-- the script has accepted
pub record IsKeptOn (c : Cell) (commits : List AcceptedCommit) (script : List Command) (now : Option (List ℕ)) (images : List ℕ → Type 0) (kept : Kept) :
    Type 0 where
  pub text_is : kept.text.items ≡ kept_text c commits script
  pub cell_is : kept.bench ≡ (kept_history c commits script).cell
  pub left : IsLeftWith c (kept_history c commits script).commits now images

-- a session over the journal that a disk had, where it tells its bytes
pub record IsKept (c : Cell) (script : List Command) (before now : Option (List ℕ)) (images : List ℕ → Type 0) (kept : Kept) : Type 0 where
  pub commits : List AcceptedCommit
  pub journal : IfSome before (λ file. IsJournalOf c file commits)
  pub few : length commits ≤ commit_limit
  pub run : IsKeptOn c commits script now images kept

-- a journal of more commits than may be
pub record IsTooLong (c : Cell) (file : List ℕ) (count : ℕ) : Type 0 where
  pub commits : List AcceptedCommit
  pub journal : IsJournalOf c file commits
  pub more : commit_limit < length commits
  pub count_is : count ≡ length commits

-- why a session ends without a text: what the disk told of its bytes before and now, and how often its calls had failed
abbrev pub IsKeepEnd : Cell → (before now : Option (List ℕ)) → (faults_before faults_now : ℕ) → Status → Type 0
IsKeepEnd c before now faults_before faults_now (BadJournal place) = IfSome before (λ file. IsDamagedAt c file place) × (now ≡ before)
IsKeepEnd c before now faults_before faults_now DiskFault = Rose faults_before faults_now
IsKeepEnd c before now faults_before faults_now (JournalFull count) = IfSome before (λ file. IsTooLong c file count) × (now ≡ before)
IsKeepEnd c before now faults_before faults_now NoMemory = Unit {0}
IsKeepEnd c before now faults_before faults_now other = ⊥

-- what a crash leaves at a moment of it: what is read as something that a crash before it might have left, or the commits that the journal had and
-- the first of those that the script has accepted
abbrev pub IsKeptImage : Cell → List Command → List ℕ → (List ℕ → Type 0) → List ℕ → Type 0
IsKeptImage c script file images image = IsAsBefore c images image
    ⊎ ((commits : List AcceptedCommit) × IsJournalOf c file commits × IsKeptTo c commits script image)
