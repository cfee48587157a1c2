-- Work that is done behind a call's input, from what the outside showed before it.
use Rattle.std.proofs.Common.{◌≡◌, inl, inr, ℕ, List, Option, Some, ◌∙◌, subst}
use Rattle.std.specs.Prelude.{IfSome}
use Rattle.enc_outside.specs.Count.{Rose}
use Rattle.enc_outside.specs.Files.{Files, Told}
use Rattle.whole_files.specs.Output.{Adds, AddsFront}
use Rattle.call_files.specs.Outside.{AreBegun, AreWritten, IsCutFile, IsCutText, IsDoneWork, IsFinished, Outside}
use Rattle.call_files.specs.Task.{Task}
use Rattle.report_text.specs.declared.status.Status.{Status}
use Rattle.report_text.specs.declared.status.Status.TheVariants.{Done, WriteFault}

-- what was done since the reading of the input is what was done since before it: reading leaves what it leaves
module _ (before mid after : Outside) (same_files : mid.files ≡ before.files) (same_faults : mid.write_faults ≡ before.write_faults)
    (same_written : mid.written ≡ before.written) (same_puts : mid.put_faults ≡ before.put_faults) where
  finished_still : (task : Task) → IsFinished task mid after → IsFinished task before after
  finished_still task done = record {
    written = subst (λ (w : Option (List ℕ)). Told (Adds task.text) w after.written) same_written done.written;
    put_faults = done.put_faults ∙ same_puts;
    write_faults = done.write_faults ∙ same_faults;
    files = subst (λ (fs : Option Files). AreWritten task.file fs after.files) same_files done.files;
  }

  cut_text_still : (task : Task) → IsCutText task mid after → IsCutText task before after
  cut_text_still task cut = record {
    rose = subst (λ n. Rose n after.put_faults) same_puts cut.rose;
    written = subst (λ (w : Option (List ℕ)). Told (AddsFront task.text) w after.written) same_written cut.written;
    files = cut.files ∙ same_files;
    write_faults = cut.write_faults ∙ same_faults;
  }

  cut_file_still : (task : Task) → IsCutFile task mid after → IsCutFile task before after
  cut_file_still task cut = record {
    rose = subst (λ n. Rose n after.write_faults) same_faults cut.rose;
    written = subst (λ (w : Option (List ℕ)). Told (Adds task.text) w after.written) same_written cut.written;
    put_faults = cut.put_faults ∙ same_puts;
    files = subst (λ (fs : Option Files). AreBegun task.file fs after.files) same_files cut.files;
  }

  pub done_still : (task : Task) (status : Status) → IsDoneWork task mid after status → IsDoneWork task before after status
  done_still task Done done = finished_still task done
  done_still task WriteFault (inl cut) = inl (cut_text_still task cut)
  done_still task WriteFault (inr cut) = inr (cut_file_still task cut)
  done_still task other done = absurd done

-- what holds where the files are told
pub of_told : (told : Option Files) (files : Files) (P : Files → Type 0) → told ≡ Some files → IfSome told P → P files
of_told told files P is holds = subst (λ (t : Option Files). IfSome t P) is holds
