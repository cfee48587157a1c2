-- What the end of a call tells, whatever ended it.
use Rattle.std.proofs.Common.{◌≡◌, ℕ, List, Option, Ok, Err, refl}
use Rattle.enc_outside.specs.Files.{Files}
use Rattle.report_text.specs.declared.status.Status.{Status}
use Rattle.enc_top.specs.Complete.{IsComplete}
use Rattle.enc_top.specs.Outcome.{IsAskedBy, IsCause, IsExact, IsReadBackFrom}
use Rattle.call_files.specs.Outside.{IsDoneWork, Outside, outside}
use Rattle.call_files.specs.Task.{task_of}
use Rattle.enc_top.specs.Words.{form_of}
use Rattle.call_files.specs.declared.work.Work.{Work}
use Rattle.enc_top.proofs.Causes.{asked_still, exact_from_cause, refused_cause, work_cause}
use Rattle.call_files.proofs.DoneWork.{done_still}
use Rattle.enc_top.proofs.Completed.{complete_from_exact, read_back_from_cause}

-- what a status tells of the words and of the outside before and after
pub record IsEnd (sticks : Type 0) (words : List (List ℕ)) (before after : Outside) (status : Status) : Type 0 where
  pub cause : IsCause sticks words before after status
  pub exact : IsExact sticks words before after status
  pub complete : IsComplete sticks words before after status
  pub read_back : IsReadBackFrom words before after status

end_of : (sticks : Type 0) (words : List (List ℕ)) (before after : Outside) (status : Status) → IsCause sticks words before after status
    → IsEnd sticks words before after status
end_of sticks words before after status cause = record {
  cause = cause;
  exact = exact_from_cause sticks words before after status cause;
  complete = complete_from_exact sticks words before after status (exact_from_cause sticks words before after status cause);
  read_back = read_back_from_cause sticks words before after status cause;
}

-- words that ask for no work: nothing was put, and no file changed
pub refused_end : (sticks : Type 0) (words : List (List ℕ)) (files now : Option Files) (reads reads_now writes writes_now : ℕ)
    (written : Option (List ℕ)) (puts : ℕ) (status : Status) → now ≡ files → writes_now ≡ writes
    → IsAskedBy sticks (form_of words) files reads reads_now (Err status)
    → IsEnd sticks words (outside files reads writes written puts) (outside now reads_now writes_now written puts) status
refused_end sticks words files now reads reads_now writes writes_now written puts status same_files same_writes asked =
    let before = outside files reads writes written puts in
    let after = outside now reads_now writes_now written puts in
    end_of sticks words before after status (refused_cause sticks (form_of words) before after status
    (record { written = refl; put_faults = refl; files = same_files; write_faults = same_writes }) asked)

-- work that was done as far as the devices let it
pub work_end : (sticks : Type 0) (words : List (List ℕ)) (files read now : Option Files) (reads reads_mid reads_now writes writes_mid writes_now : ℕ)
    (written written_now : Option (List ℕ)) (puts puts_now : ℕ) (work : Work) (status : Status) → read ≡ files → writes_mid ≡ writes
    → reads_now ≡ reads_mid → IsAskedBy sticks (form_of words) files reads reads_mid (Ok work)
    → IsDoneWork (task_of work) (outside read reads_mid writes_mid written puts) (outside now reads_now writes_now written_now puts_now) status
    → IsEnd sticks words (outside files reads writes written puts) (outside now reads_now writes_now written_now puts_now) status
work_end sticks words files read now reads reads_mid reads_now writes writes_mid writes_now written written_now puts puts_now work status same_files
    same_writes same_reads asked done =
    let before = outside files reads writes written puts in
    let mid = outside read reads_mid writes_mid written puts in
    let after = outside now reads_now writes_now written_now puts_now in
    end_of sticks words before after status (work_cause sticks (form_of words) before after work status asked.0
    (asked_still (form_of words) before mid after (Ok (task_of work)) same_reads asked.1)
    (done_still before mid after same_files same_writes refl refl (task_of work) status done))
