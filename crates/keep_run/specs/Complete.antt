-- Input files and a journal that leave a session no refusal. This project's own.
use Rattle.std.specs.Prelude.{◌≡◌, ◌⊎◌, ℕ, ◌≤◌, List, length, Option, None, Some}
use Rattle.enc_outside.specs.Count.{Rose}
use Rattle.enc_outside.specs.Files.{Files}
use Rattle.text_spec.specs.declared.command.Command.{Command}
use Rattle.history_spec.specs.Steps.{AcceptedCommit}
use Rattle.book_journal.specs.Journals.{IsJournalOf}
use Rattle.book_journal.specs.Keeping.{commit_limit}
use Rattle.call_files.specs.GoodFiles.{IsGoodCell, IsGoodScript}
use Rattle.call_files.specs.Outside.{IsSmooth, Outside}
use Rattle.report_text.specs.declared.status.Status.{Status}
use Rattle.report_text.specs.declared.status.Status.TheVariants.{Done, NoMemory}
use Rattle.keep_run.specs.Words.{KeepForm, form_of}

-- a cell and a script are there, and the journal has the commits of some list, not too many
pub record IsGood (form : KeepForm) (files : Files) (file : List ℕ) : Type 0 where
  pub cell : IsGoodCell form.cell files
  pub commands : List Command
  pub script : IsGoodScript form.script files commands
  pub commits : List AcceptedCommit
  pub journal : IsJournalOf cell.start file commits
  pub few : length commits ≤ commit_limit

abbrev pub IsGoodIn : Option KeepForm → Files → List ℕ → Type 0
IsGoodIn None files file = ⊥
IsGoodIn (Some form) files file = IsGood form files file

-- where files and bytes are told and good, and no device failed, all is done, unless memory ran out
abbrev pub IsComplete : List (List ℕ) → (before after : Outside) → (content : Option (List ℕ)) → (faults faults_now : ℕ) → Status → Type 0
IsComplete words before after content faults faults_now status = (files : Files) (file : List ℕ) → IsSmooth before after files → content ≡ Some file
    → ¬ (Rose faults faults_now) → IsGoodIn (form_of words) files file → (status ≡ Done) ⊎ (status ≡ NoMemory)
