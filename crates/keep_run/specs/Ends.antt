-- What the end of a call tells, whatever ended it. This project's own.
use Rattle.std.specs.Prelude.{◌≡◌, ◌↔◌, ℕ, List, Option, None}
use Rattle.report_text.specs.declared.status.Status.{Status}
use Rattle.report_text.specs.declared.status.Status.TheVariants.{Usage}
use Rattle.call_files.specs.Inputs.{EndTellsReads}
use Rattle.call_files.specs.Outside.{Outside}
use Rattle.keep_run.specs.Causes.{EndTellsDisk, IsCause, IsExact, IsReadBackFrom}
use Rattle.keep_run.specs.Complete.{IsComplete}
use Rattle.keep_run.specs.Words.{form_of}

-- what a status tells of the words, of the outside before and after, and of the journal
pub record IsEnd (words : List (List ℕ)) (before after : Outside) (content now : Option (List ℕ)) (faults faults_now : ℕ)
    (images : List ℕ → Type 0) (status : Status) : Type 0 where
  pub cause : IsCause words before after content now faults faults_now images status
  pub exact : IsExact words before after content faults faults_now status
  pub complete : IsComplete words before after content faults faults_now status
  pub read_back : IsReadBackFrom words before.files after.files content status
  pub told_reads : EndTellsReads before.read_faults after.read_faults status
  pub told_disk : EndTellsDisk faults faults_now status
  pub usage : (status ≡ Usage) ↔ (form_of words ≡ None)
