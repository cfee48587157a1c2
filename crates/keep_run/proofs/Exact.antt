-- What the causes of statuses tell where no device failed, and what is left in OUT.
use Rattle.std.proofs.Common.{◌≡◌, ◌⊎◌, inl, inr, ℕ, List, length, Option, None, Some, Result, Ok, Err, refl, sym, ap, ◌∙◌, subst, arith}
use Rattle.std.specs.Prelude.{IfSome}
use Rattle.enc_outside.specs.Count.{Rose}
use Rattle.enc_outside.specs.Files.{Files, Told, Writes}
use Rattle.s57_types.specs.declared.cell.Cell.{Cell}
use Rattle.file_spec.specs.EncodedCell.{encoded_cell}
use Rattle.text_spec.specs.declared.command.Command.{Command}
use Rattle.history_spec.specs.Steps.{AcceptedCommit}
use Rattle.book_journal.specs.Journals.{IsJournalOf, IsReading}
use Rattle.report_text.specs.declared.status.Status.{Status}
use Rattle.report_text.specs.declared.status.Status.TheVariants.{Done, Usage, Absent, BadCell, BadScript, ReadFault, WriteFault, TooLarge, NoMemory}
use Rattle.report_text.specs.declared.status.Status.TheVariants.{BadOrder, Stuck, TooManyFindings, BadUpdate, Refused, BadJournal, DiskFault, OpRefused}
use Rattle.report_text.specs.declared.status.Status.TheVariants.{JournalFull}
use Rattle.call_files.specs.Inputs.{AndThen, CellIs, ScriptIs}
use Rattle.call_files.specs.Outside.{IsCut, IsDoneWork, IsFinished, IsSilent, IsSmooth, Outside}
use Rattle.call_files.specs.Task.{Task, task_of}
use Rattle.call_files.specs.declared.work.Work.{Work}
use Rattle.call_files.proofs.DoneWork.{of_told}
use Rattle.call_files.proofs.GoodFiles.{cell_is, script_is}
use Rattle.call_files.proofs.OneAnswer.{IsOne, ok_not_err, one_cell, one_script, one_then}
use Rattle.keep_run.specs.Causes.{AreGiven, InputIs, IsAskedIn, IsAskedOf, IsCauseIn, IsCauseOf, IsExpectedIn, IsExpectedOf, IsInputEnd, IsReadBackIn}
use Rattle.keep_run.specs.Causes.{IsRunOf, IsUntouched, JournalIs, KeepIs, kept_task}
use Rattle.keep_run.specs.Complete.{IsGood, IsGoodIn}
use Rattle.keep_run.specs.Runs.{kept_history}
use Rattle.keep_run.specs.Words.{KeepForm}

-- ---- causes
module _ (before after : Outside) (content now : Option (List ℕ)) (faults faults_now : ℕ) (images : List ℕ → Type 0) where
  ends_so : (form : KeepForm) (P Q : Task → Type 0) → IsRunOf form before.files content now images P → ((task : Task) → P task → Q task)
      → IsRunOf form before.files content now images Q
  ends_so form P Q run so = record {
    start = run.start;
    script = run.script;
    commits = run.commits;
    given = run.given;
    journal = run.journal;
    few = run.few;
    ends = so _ run.ends;
    read_back = run.read_back;
    left = run.left;
  }

  done_of : (form : KeepForm) (work : Work) (status : Status) → IsRunOf form before.files content now images (λ task. task_of work ≡ task)
      → IsDoneWork (task_of work) before after status → IsCauseOf form before after content now faults faults_now images status
  done_of form work Done run done =
      ends_so form (λ task. task_of work ≡ task) (λ task. IsFinished task before after) run (λ task is. subst (λ (t : Task). IsFinished t before after) is done)
  done_of form work WriteFault run done =
      ends_so form (λ task. task_of work ≡ task) (λ task. IsCut task before after) run (λ task is. subst (λ (t : Task). IsCut t before after) is done)
  done_of form work Usage run done = absurd done
  done_of form work (Absent name) run done = absurd done
  done_of form work (BadCell fault) run done = absurd done
  done_of form work (BadScript session line code) run done = absurd done
  done_of form work (ReadFault name) run done = absurd done
  done_of form work (TooLarge name) run done = absurd done
  done_of form work NoMemory run done = absurd done
  done_of form work (BadOrder place) run done = absurd done
  done_of form work (Stuck desk serial) run done = absurd done
  done_of form work TooManyFindings run done = absurd done
  done_of form work (BadUpdate fault) run done = absurd done
  done_of form work (Refused refusal) run done = absurd done
  done_of form work (BadJournal place) run done = absurd done
  done_of form work DiskFault run done = absurd done
  done_of form work (OpRefused cause) run done = absurd done
  done_of form work (JournalFull count) run done = absurd done

  pub done_cause : (form : Option KeepForm) (work : Work) (status : Status)
      → IsAskedIn form before.files before.read_faults after.read_faults content now faults faults_now images (Ok work)
      → IsDoneWork (task_of work) before after status → IsCauseIn form before after content now faults faults_now images status
  done_cause None work status asked done = absurd asked
  done_cause (Some form) work status asked done = done_of form work status asked done

  refused_of : (form : KeepForm) (status : Status) → IsSilent before after
      → IsAskedOf form before.files before.read_faults after.read_faults content now faults faults_now images (Err status)
      → IsCauseOf form before after content now faults faults_now images status
  refused_of form Done silent asked = absurd asked
  refused_of form Usage silent asked = absurd asked
  refused_of form (Absent name) silent asked = (silent, asked)
  refused_of form (BadCell fault) silent asked = (silent, asked)
  refused_of form (BadScript session line code) silent asked = (silent, asked)
  refused_of form (ReadFault name) silent asked = (silent, asked)
  refused_of form WriteFault silent asked = absurd asked
  refused_of form (TooLarge name) silent asked = (silent, asked)
  refused_of form NoMemory silent asked = (silent, asked)
  refused_of form (BadOrder place) silent asked = (silent, asked)
  refused_of form (Stuck desk serial) silent asked = (silent, asked)
  refused_of form TooManyFindings silent asked = (silent, asked)
  refused_of form (BadUpdate fault) silent asked = (silent, asked)
  refused_of form (Refused refusal) silent asked = (silent, asked)
  refused_of form (BadJournal place) silent asked = (silent, asked)
  refused_of form DiskFault silent asked = (silent, asked)
  refused_of form (OpRefused cause) silent asked = (silent, asked)
  refused_of form (JournalFull count) silent asked = (silent, asked)

  pub refused_cause : (form : Option KeepForm) (status : Status) → IsSilent before after
      → IsAskedIn form before.files before.read_faults after.read_faults content now faults faults_now images (Err status)
      → IsCauseIn form before after content now faults faults_now images status
  refused_cause None Usage silent asked = (refl, silent, asked)
  refused_cause None Done silent asked = absurd asked
  refused_cause None (Absent name) silent asked = absurd asked
  refused_cause None (BadCell fault) silent asked = absurd asked
  refused_cause None (BadScript session line code) silent asked = absurd asked
  refused_cause None (ReadFault name) silent asked = absurd asked
  refused_cause None WriteFault silent asked = absurd asked
  refused_cause None (TooLarge name) silent asked = absurd asked
  refused_cause None NoMemory silent asked = absurd asked
  refused_cause None (BadOrder place) silent asked = absurd asked
  refused_cause None (Stuck desk serial) silent asked = absurd asked
  refused_cause None TooManyFindings silent asked = absurd asked
  refused_cause None (BadUpdate fault) silent asked = absurd asked
  refused_cause None (Refused refusal) silent asked = absurd asked
  refused_cause None (BadJournal place) silent asked = absurd asked
  refused_cause None DiskFault silent asked = absurd asked
  refused_cause None (OpRefused cause) silent asked = absurd asked
  refused_cause None (JournalFull count) silent asked = absurd asked
  refused_cause (Some form) status silent asked = refused_of form status silent asked

  -- words of no form
  pub usage_of_none : (form : Option KeepForm) (status : Status) → IsCauseIn form before after content now faults faults_now images status
      → form ≡ None → status ≡ Usage
  usage_of_none form status cause none =
      (subst (λ (f : Option KeepForm). IsCauseIn f before after content now faults faults_now images status) none cause).0

  pub none_of_usage : (form : Option KeepForm) (status : Status) → IsCauseIn form before after content now faults faults_now images status
      → status ≡ Usage → form ≡ None
  none_of_usage None status cause is = refl
  none_of_usage (Some form) status cause is =
      absurd (subst (IsCauseOf form before after content now faults faults_now images) is cause)

  -- ---- where no device failed
  module _ (files : Files) (file : List ℕ) (smooth : IsSmooth before after files) (there : content ≡ Some file) (calm : ¬ (Rose faults faults_now)) where
    given_is : (form : KeepForm) (c : Cell) (script : List Command) → AreGiven form before.files c script → InputIs form files (Ok (c, script))
    given_is form c script given = inl (
      c,
      of_told before.files files (λ fs. CellIs form.cell fs (Ok c)) smooth.told given.cell_is,
      inl (script, of_told before.files files (λ fs. ScriptIs 1 form.script fs (Ok script)) smooth.told given.script_is, refl),
    )

    at_bytes : (P : List ℕ → Type 0) → IfSome content P → P file
    at_bytes P holds = let here : IfSome (Some file) P = subst (λ (o : Option (List ℕ)). IfSome o P) there holds in here

    input_ends : (form : KeepForm) (status : Status) → IsInputEnd form before.files status → KeepIs form files file (Err status)
    input_ends form status end = inr (status, of_told before.files files (λ fs. InputIs form fs (Err status)) smooth.told end, refl)

    no_cut : (task : Task) → IsCut task before after → ⊥
    no_cut task (inl text) = smooth.puts text.rose
    no_cut task (inr out) = smooth.writes out.rose

    journal_ends_it : (form : KeepForm) (c : Cell) (script : List Command) (status : Status) → AreGiven form before.files c script
        → JournalIs c file (Err status) → KeepIs form files file (Err status)
    journal_ends_it form c script status given bad = inl ((c, script), given_is form c script given, inr (status, bad, refl))

    expected_of : (form : KeepForm) (status : Status) → IsCauseOf form before after content now faults faults_now images status
        → IsExpectedOf form files file status ⊎ (status ≡ NoMemory)
    expected_of form Done cause = inl (
      kept_task form.out cause.start cause.commits cause.script,
      inl (
        (cause.start, cause.script),
        given_is form cause.start cause.script cause.given,
        inl (cause.commits, (at_bytes (λ bytes. IsJournalOf cause.start bytes cause.commits) cause.journal, cause.few), refl),
      ),
    )
    expected_of form WriteFault cause = absurd (no_cut _ cause.ends)
    expected_of form Usage cause = absurd cause
    expected_of form (Absent name) cause = inl (input_ends form (Absent name) cause.1.1)
    expected_of form (BadCell fault) cause = inl (input_ends form (BadCell fault) cause.1)
    expected_of form (BadScript session line code) cause = inl (input_ends form (BadScript session line code) cause.1)
    expected_of form (ReadFault name) cause = absurd (smooth.reads cause.1.1)
    expected_of form (TooLarge name) cause = inl (input_ends form (TooLarge name) cause.1.1)
    expected_of form NoMemory cause = inr refl
    expected_of form (BadOrder place) cause = absurd cause.1
    expected_of form (Stuck desk serial) cause = absurd cause.1
    expected_of form TooManyFindings cause = inl (input_ends form TooManyFindings cause.1)
    expected_of form (BadUpdate fault) cause = absurd cause.1
    expected_of form (Refused refusal) cause = absurd cause.1
    expected_of form (BadJournal place) cause =
        let end = cause.1 in inl (journal_ends_it form end.start end.script (BadJournal place) end.given (at_bytes _ end.ends))
    expected_of form DiskFault cause = absurd (calm cause.1.rose)
    expected_of form (OpRefused why) cause = absurd cause.1
    expected_of form (JournalFull count) cause =
        let end = cause.1 in inl (journal_ends_it form end.start end.script (JournalFull count) end.given (at_bytes _ end.ends))

    pub expected : (form : Option KeepForm) (status : Status) → IsCauseIn form before after content now faults faults_now images status
        → IsExpectedIn form files file status ⊎ (status ≡ NoMemory)
    expected None status cause = inl cause.0
    expected (Some form) status cause = expected_of form status cause

  -- ---- what is left in OUT
  read_back_of : (form : KeepForm) (a b : Option Files) → a ≡ before.files → b ≡ after.files
      → IsCauseOf form before after content now faults faults_now images Done → IfSome content (λ file. Told (IsReadBackIn (Some form) file) a b)
  read_back_of form a b was is_now cause = by content refl a b was is_now
    where
      by : (o : Option (List ℕ)) → o ≡ content → (x y : Option Files) → x ≡ before.files → y ≡ after.files
          → IfSome o (λ file. Told (IsReadBackIn (Some form) file) x y)
      by None at x y p q = tt
      by (Some file) at None y p q = tt
      by (Some file) at (Some fs) None p q = tt
      by (Some file) at (Some fs) (Some gs) p q =
          let wrote = subst (λ (o : Option Files). Told (Writes form.out (encoded_cell (kept_history cause.start cause.commits cause.script).cell))
          (Some fs) o) (sym q)
          (subst (λ (o : Option Files). Told (Writes form.out (encoded_cell (kept_history cause.start cause.commits cause.script).cell)) o after.files) (sym p)
          cause.ends.files) in
          record {
            start = cause.start;
            cell_is = of_told before.files fs (λ f. CellIs form.cell f (Ok cause.start)) (sym p) cause.given.cell_is;
            script = cause.script;
            script_is = of_told before.files fs (λ f. ScriptIs 1 form.script f (Ok cause.script)) (sym p) cause.given.script_is;
            commits = cause.commits;
            journal = (let here : IfSome (Some file) (λ bytes. IsJournalOf cause.start bytes cause.commits) =
                subst (λ (o : Option (List ℕ)). IfSome o (λ bytes. IsJournalOf cause.start bytes cause.commits)) (sym at) cause.journal in here);
            bytes = encoded_cell (kept_history cause.start cause.commits cause.script).cell;
            there = wrote.written;
            decoded = cause.read_back;
          }

  none_back : (o : Option (List ℕ)) (a b : Option Files) → ⊥ → IfSome o (λ file. Told (IsReadBackIn None file) a b)
  none_back o a b never = absurd never

  not_done : ◌≡◌ {A = Status} Done Usage → ⊥
  not_done e = cc

  pub read_back : (form : Option KeepForm) (status : Status) → IsCauseIn form before after content now faults faults_now images status → status ≡ Done
      → IfSome content (λ file. Told (IsReadBackIn form file) before.files after.files)
  read_back None status cause done = absurd (not_done (sym done ∙ cause.0))
  read_back (Some form) status cause done =
      read_back_of form before.files after.files refl refl (subst (IsCauseOf form before after content now faults faults_now images) done cause)

-- ---- completeness
abbrev pub HasOneReading : Type 0
HasOneReading = (c : Cell) (file : List ℕ) (reading other : Result (List AcceptedCommit) ℕ) → IsReading c file reading → IsReading c file other
    → reading ≡ other

one_input : (form : KeepForm) (files : Files) → IsOne (InputIs form files)
one_input form files = one_then (CellIs form.cell files) _ (one_cell form.cell files)
    (λ c. one_then (ScriptIs 1 form.script files) _ (one_script 1 form.script files) (λ script x y p q. p ∙ sym q))

same_given : (c d : Cell) (script other : List Command) → ◌≡◌ {A = Result (Cell × List Command) Status} (Ok (c, script)) (Ok (d, other))
    → ◌≡◌ {A = Cell × List Command} (c, script) (d, other)
same_given c d script other e = cc

same_commits : (a b : List AcceptedCommit) → ◌≡◌ {A = Result (List AcceptedCommit) ℕ} (Ok a) (Ok b) → a ≡ b
same_commits a b e = cc

no_damage : (a : List AcceptedCommit) (place : ℕ) → ◌≡◌ {A = Result (List AcceptedCommit) ℕ} (Ok a) (Err place) → ⊥
no_damage a place e = cc

module _ (one : HasOneReading) (form : KeepForm) (files : Files) (file : List ℕ) (good : IsGood form files file) where
  input_is : InputIs form files (Ok (good.cell.start, good.commands))
  input_is = inl (good.cell.start, cell_is form.cell files good.cell, inl (good.commands, script_is 1 form.script files good.commands good.script, refl))

  journal_ends : (status : Status) → JournalIs good.cell.start file (Err status) → ⊥
  journal_ends Done bad = bad
  journal_ends Usage bad = bad
  journal_ends (Absent name) bad = bad
  journal_ends (BadCell fault) bad = bad
  journal_ends (BadScript session line code) bad = bad
  journal_ends (ReadFault name) bad = bad
  journal_ends WriteFault bad = bad
  journal_ends (TooLarge name) bad = bad
  journal_ends NoMemory bad = bad
  journal_ends (BadOrder place) bad = bad
  journal_ends (Stuck desk serial) bad = bad
  journal_ends TooManyFindings bad = bad
  journal_ends (BadUpdate fault) bad = bad
  journal_ends (Refused refusal) bad = bad
  journal_ends (BadJournal place) bad = no_damage good.commits place (one good.cell.start file (Ok good.commits) (Err place) good.journal bad)
  journal_ends DiskFault bad = bad
  journal_ends (OpRefused cause) bad = bad
  journal_ends (JournalFull count) long =
      let same = ap length (same_commits good.commits long.commits (one good.cell.start file (Ok good.commits) (Ok long.commits) good.journal long.journal)) in
      let few = good.few in
      let more = long.more in
      omega (arith, same, few, more)

  not_refused : (status : Status) → KeepIs form files file (Err status) → ⊥
  not_refused status (inr p) = ok_not_err _ p.0 (one_input form files (Ok (good.cell.start, good.commands)) (Err p.0) input_is p.1)
  not_refused status (inl p) =
      let same = same_given good.cell.start p.0.0 good.commands p.0.1
      (one_input form files (Ok (good.cell.start, good.commands)) (Ok p.0) input_is p.1) in
      by (ap (λ (given : Cell × List Command). given.0) same) p.2
    where
      by : good.cell.start ≡ p.0.0 → AndThen (JournalIs p.0.0 file) (λ commits answer. answer ≡ Ok (kept_task form.out p.0.0 commits p.0.1)) (Err status) → ⊥
      by same (inl q) = ok_not_err _ status (sym q.2)
      by same (inr q) = journal_ends q.0 (subst (λ (c : Cell). JournalIs c file (Err q.0)) (sym same) q.1)

  done_if : (status : Status) → IsExpectedOf form files file status → status ≡ Done
  done_if Done is = refl
  done_if Usage is = absurd (not_refused Usage is)
  done_if (Absent name) is = absurd (not_refused (Absent name) is)
  done_if (BadCell fault) is = absurd (not_refused (BadCell fault) is)
  done_if (BadScript session line code) is = absurd (not_refused (BadScript session line code) is)
  done_if (ReadFault name) is = absurd (not_refused (ReadFault name) is)
  done_if WriteFault is = absurd (not_refused WriteFault is)
  done_if (TooLarge name) is = absurd (not_refused (TooLarge name) is)
  done_if NoMemory is = absurd (not_refused NoMemory is)
  done_if (BadOrder place) is = absurd (not_refused (BadOrder place) is)
  done_if (Stuck desk serial) is = absurd (not_refused (Stuck desk serial) is)
  done_if TooManyFindings is = absurd (not_refused TooManyFindings is)
  done_if (BadUpdate fault) is = absurd (not_refused (BadUpdate fault) is)
  done_if (Refused refusal) is = absurd (not_refused (Refused refusal) is)
  done_if (BadJournal place) is = absurd (not_refused (BadJournal place) is)
  done_if DiskFault is = absurd (not_refused DiskFault is)
  done_if (OpRefused cause) is = absurd (not_refused (OpRefused cause) is)
  done_if (JournalFull count) is = absurd (not_refused (JournalFull count) is)

pub completed : HasOneReading → (form : Option KeepForm) (files : Files) (file : List ℕ) (status : Status) → IsGoodIn form files file
    → IsExpectedIn form files file status ⊎ (status ≡ NoMemory) → (status ≡ Done) ⊎ (status ≡ NoMemory)
completed one None files file status good is = absurd good
completed one (Some form) files file status good (inl is) = inl (done_if one form files file good status is)
completed one (Some form) files file status good (inr none) = inr none

-- ---- the disk
pub done_touches : (task : Task) (before after : Outside) (status : Status) → IsDoneWork task before after status → IsUntouched status → ⊥
done_touches task before after Done done un = un
done_touches task before after Usage done un = done
done_touches task before after (Absent name) done un = done
done_touches task before after (BadCell fault) done un = done
done_touches task before after (BadScript session line code) done un = done
done_touches task before after (ReadFault name) done un = done
done_touches task before after WriteFault done un = un
done_touches task before after (TooLarge name) done un = done
done_touches task before after NoMemory done un = done
done_touches task before after (BadOrder place) done un = done
done_touches task before after (Stuck desk serial) done un = done
done_touches task before after TooManyFindings done un = done
done_touches task before after (BadUpdate fault) done un = done
done_touches task before after (Refused refusal) done un = done
done_touches task before after (BadJournal place) done un = done
done_touches task before after DiskFault done un = done
done_touches task before after (OpRefused cause) done un = done
done_touches task before after (JournalFull count) done un = done
