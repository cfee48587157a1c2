-- What the cause of a status tells of the whole call.
use Rattle.std.proofs.Common.{◌≡◌, ◌↔◌, ℕ, List, Option, None}
use Rattle.report_text.specs.declared.status.Status.{Status}
use Rattle.report_text.specs.declared.status.Status.TheVariants.{Usage}
use Rattle.call_files.specs.Outside.{Outside}
use Rattle.keep_run.specs.Causes.{IsCause, IsExact, IsReadBackFrom}
use Rattle.keep_run.specs.Complete.{IsComplete}
use Rattle.keep_run.specs.Words.{form_of}
use Rattle.keep_run.proofs.Exact.{HasOneReading, completed, expected, none_of_usage, read_back, usage_of_none}

module _ (words : List (List ℕ)) (before after : Outside) (content now : Option (List ℕ)) (faults faults_now : ℕ) (images : List ℕ → Type 0)
    (status : Status) (cause : IsCause words before after content now faults faults_now images status) where
  pub exact : IsExact words before after content faults faults_now status
  exact files file smooth there calm =
      expected before after content now faults faults_now images files file smooth there calm (form_of words) status cause

  pub complete : HasOneReading → IsComplete words before after content faults faults_now status
  complete one files file smooth there calm good = completed one (form_of words) files file status good (exact files file smooth there calm)

  pub back : IsReadBackFrom words before.files after.files content status
  back = read_back before after content now faults faults_now images (form_of words) status cause

  pub usage : (status ≡ Usage) ↔ (form_of words ≡ None)
  usage = (
    none_of_usage before after content now faults faults_now images (form_of words) status cause,
    usage_of_none before after content now faults faults_now images (form_of words) status cause,
  )
