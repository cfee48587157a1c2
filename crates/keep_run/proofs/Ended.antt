-- What the end of a call tells, whatever ended it.
use Rattle.std.proofs.Common.{◌≡◌, ℕ, List, Option, Ok, Err, refl, subst, sym, ◌∙◌}
use Rattle.enc_outside.specs.Files.{Files}
use Rattle.report_text.specs.declared.status.Status.{Status}
use Rattle.call_files.specs.Outside.{IsDoneWork, Outside, outside}
use Rattle.call_files.specs.Task.{task_of}
use Rattle.call_files.specs.declared.work.Work.{Work}
use Rattle.call_files.specs.Inputs.{EndTellsReads}
use Rattle.call_files.proofs.Answered.{none_failed}
use Rattle.call_files.proofs.DoneWork.{done_still}
use Rattle.keep_run.specs.Causes.{EndTellsDisk, IsAskedIn, IsCause}
use Rattle.keep_run.specs.Ends.{IsEnd}
use Rattle.keep_run.specs.Words.{form_of}
use Rattle.keep_run.proofs.Exact.{HasOneReading, done_cause, refused_cause}
use Rattle.keep_run.proofs.Told.{no_disk_fault}
use Rattle.keep_run.proofs.Whole.{back, complete, exact, usage}

module _ (words : List (List ℕ)) (content now : Option (List ℕ)) (faults faults_now : ℕ) (images : List ℕ → Type 0) (one : HasOneReading) where
  end_of : (before after : Outside) (status : Status) → IsCause words before after content now faults faults_now images status
      → EndTellsReads before.read_faults after.read_faults status → EndTellsDisk faults faults_now status
      → IsEnd words before after content now faults faults_now images status
  end_of before after status given told told_disk = record {
    cause = given;
    exact = exact words before after content now faults faults_now images status given;
    complete = complete words before after content now faults faults_now images status given one;
    read_back = back words before after content now faults faults_now images status given;
    told_reads = told;
    told_disk = told_disk;
    usage = usage words before after content now faults faults_now images status given;
  }

  -- words that ask for no work: nothing was put, and no file changed
  pub refused_end : (files files_now : Option Files) (reads reads_now writes writes_now : ℕ) (written : Option (List ℕ)) (puts : ℕ) (status : Status)
      → files_now ≡ files → writes_now ≡ writes
      → IsAskedIn (form_of words) files reads reads_now content now faults faults_now images (Err status)
      → EndTellsReads reads reads_now status → EndTellsDisk faults faults_now status
      → IsEnd words (outside files reads writes written puts) (outside files_now reads_now writes_now written puts) content now faults faults_now
      images status
  refused_end files files_now reads reads_now writes writes_now written puts status same_files same_writes asked told told_disk =
      let before = outside files reads writes written puts in
      let after = outside files_now reads_now writes_now written puts in
      end_of before after status (refused_cause before after content now faults faults_now images (form_of words) status
      (record { written = refl; put_faults = refl; files = same_files; write_faults = same_writes }) asked) told told_disk

  -- work that was done as far as the devices let it
  pub work_end : (files files_mid files_now : Option Files) (reads reads_mid reads_now writes writes_mid writes_now : ℕ)
      (written written_now : Option (List ℕ)) (puts puts_now : ℕ) (work : Work) (status : Status) → files_mid ≡ files → writes_mid ≡ writes
      → reads_now ≡ reads_mid → IsAskedIn (form_of words) files reads reads_mid content now faults faults_now images (Ok work) → reads_mid ≡ reads
      → faults_now ≡ faults
      → IsDoneWork (task_of work) (outside files_mid reads_mid writes_mid written puts) (outside files_now reads_now writes_now written_now puts_now)
      status
      → IsEnd words (outside files reads writes written puts) (outside files_now reads_now writes_now written_now puts_now) content now faults
      faults_now images status
  work_end files files_mid files_now reads reads_mid reads_now writes writes_mid writes_now written written_now puts puts_now work status same_files
      same_writes same_reads asked none no_fault done =
      let before = outside files reads writes written puts in
      let mid = outside files_mid reads_mid writes_mid written puts in
      let after = outside files_now reads_now writes_now written_now puts_now in
      end_of before after status (done_cause before after content now faults faults_now images (form_of words) work status
      (subst (λ (n : ℕ). IsAskedIn (form_of words) files reads n content now faults faults_now images (Ok work)) (sym same_reads) asked)
      (done_still before mid after same_files same_writes refl refl (task_of work) status done)) (none_failed reads reads_now status (same_reads ∙ none))
      (no_disk_fault faults faults_now status no_fault)
