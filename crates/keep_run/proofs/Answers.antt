-- What the steps of a session over a journal answer, as answers of the whole.
use Rattle.std.proofs.Common.{◌≡◌, inl, inr, ℕ, ◌≤◌, List, Option, None, Some, Result, Ok, Err, refl, sym, subst, ◌∙◌}
use Rattle.std.specs.Prelude.{IfErr, IfOk, IfSome}
use Rattle.enc_outside.specs.Files.{Files}
use Rattle.s57_types.specs.declared.cell.Cell.{Cell}
use Rattle.file_spec.specs.DecodedCell.{decoded_cell}
use Rattle.file_spec.specs.EncodedCell.{encoded_cell}
use Rattle.text_spec.specs.declared.command.Command.{Command}
use Rattle.script_text.specs.declared.script.Script.{Script}
use Rattle.crash_disk.specs.Disk.{LeavesOnly}
use Rattle.crash_disk.proofs.Moments.{started, weakened}
use Rattle.report_text.specs.declared.status.Status.{Status}
use Rattle.report_text.specs.declared.status.Status.TheVariants.{Done, Usage, Absent, BadCell, BadScript, ReadFault, WriteFault, TooLarge, NoMemory}
use Rattle.report_text.specs.declared.status.Status.TheVariants.{BadOrder, Stuck, TooManyFindings, BadUpdate, Refused, BadJournal, DiskFault, OpRefused}
use Rattle.report_text.specs.declared.status.Status.TheVariants.{JournalFull}
use Rattle.call_files.specs.Inputs.{CellIs, IsFile, IsInputStatus, IsNotOfOrder, ScriptIs, Tells}
use Rattle.call_files.specs.declared.cell_input.Checked.{Checked}
use Rattle.call_files.specs.declared.work.Work.{Work}
use Rattle.call_files.proofs.Answered.{status_of_more, tells_first, tells_later}
use Rattle.keep_run.specs.Causes.{AreGiven, InputIs, IsAskedOf, IsImageIn, IsInputOf, IsReached, IsUntouched, IsWorkOf}
use Rattle.keep_run.specs.Keeps.{IsKeepEnd, IsKept, IsKeptImage}
use Rattle.keep_run.specs.Words.{KeepForm}
use Rattle.keep_run.specs.declared.report.Kept.{Kept}

-- the cell and the script that the input files gave, told of the files as they were before the cell was read
pub given_of : (form : KeepForm) (old mid : Option Files) (read start : Cell) (script : List Command) → start ≡ read → mid ≡ old
    → IfSome old (λ fs. CellIs form.cell fs (Ok read)) → IfSome mid (λ fs. ScriptIs 1 form.script fs (Ok script)) → AreGiven form old start script
given_of form old mid read start script is_start same cell_is script_is = record {
  cell_is = subst (λ (c : Cell). IfSome old (λ fs. CellIs form.cell fs (Ok c))) (sym is_start) cell_is;
  script_is = subst (λ (told : Option Files). IfSome told (λ fs. ScriptIs 1 form.script fs (Ok script))) same script_is;
}

module _ (form : KeepForm) (files : Option Files) (reads : ℕ) (content now : Option (List ℕ)) (faults faults_now : ℕ) (images : List ℕ → Type 0) where
  -- a status at which the input files end the call
  ended : (reads_now : ℕ) (status : Status) → IsInputStatus (IsInputOf form) status → IsNotOfOrder status
      → Tells (λ (given : Cell × List Command). given) (InputIs form) (IsReached form) files reads reads_now (Err status)
      → IsAskedOf form files reads reads_now content now faults faults_now images (Err status)
  ended reads_now Done is kind tells = absurd is
  ended reads_now Usage is kind tells = absurd is
  ended reads_now (Absent name) is kind tells = (is, tells)
  ended reads_now (BadCell fault) is kind tells = tells
  ended reads_now (BadScript session line code) is kind tells = tells
  ended reads_now (ReadFault name) is kind tells = (is, tells.0, tells.1)
  ended reads_now WriteFault is kind tells = absurd is
  ended reads_now (TooLarge name) is kind tells = (is, tells)
  ended reads_now NoMemory is kind tells = tt
  ended reads_now (BadOrder place) is kind tells = absurd kind
  ended reads_now (Stuck desk serial) is kind tells = absurd is
  ended reads_now TooManyFindings is kind tells = tells
  ended reads_now (BadUpdate fault) is kind tells = absurd is
  ended reads_now (Refused refusal) is kind tells = absurd is
  ended reads_now (BadJournal place) is kind tells = absurd is
  ended reads_now DiskFault is kind tells = absurd is
  ended reads_now (OpRefused cause) is kind tells = absurd is
  ended reads_now (JournalFull count) is kind tells = absurd is

  pub cell_ends : (reads_now : ℕ) (status : Status) → IsInputStatus (λ n. n ≡ form.cell) status → IsNotOfOrder status
      → Tells (λ (checked : Checked). checked.cell) (CellIs form.cell) (IsFile form.cell) files reads reads_now (Err status)
      → IsAskedOf form files reads reads_now content now faults faults_now images (Err status)
  cell_ends reads_now status is kind tells =
      ended reads_now status (status_of_more (λ n. n ≡ form.cell) (IsInputOf form) status (λ n same. inl same) is) kind
      (tells_first (λ (checked : Checked). checked.cell) (λ (given : Cell × List Command). given) (CellIs form.cell) (InputIs form) (IsFile form.cell)
      (IsReached form) files reads reads_now status (λ fs bad. inr (status, bad, refl)) (λ fs n is. inl is) tells)

  module _ (start : Cell) (good : IfSome files (λ fs. CellIs form.cell fs (Ok start))) where
    pub script_ends : (files_mid : Option Files) (mid reads_now : ℕ) (status : Status) → files_mid ≡ files → reads ≤ mid
        → IsInputStatus (λ n. n ≡ form.script) status → IsNotOfOrder status
        → Tells (λ (script : Script). script) (ScriptIs 1 form.script) (IsFile form.script) files_mid mid reads_now (Err status)
        → IsAskedOf form files reads reads_now content now faults faults_now images (Err status)
    script_ends files_mid mid reads_now status unchanged le is kind told =
        let tells = subst (λ (fs : Option Files). Tells (λ (script : Script). script) (ScriptIs 1 form.script) (IsFile form.script) fs mid reads_now
        (Err status)) unchanged told in
        ended reads_now status (status_of_more (λ n. n ≡ form.script) (IsInputOf form) status (λ n same. inr same) is) kind
        (tells_later (λ (script : Script). script) (λ (given : Cell × List Command). given) (ScriptIs 1 form.script) (InputIs form) (IsFile form.script)
        (IsReached form) (λ fs. CellIs form.cell fs (Ok start)) files reads mid reads_now status le good
        (λ fs at bad. inl (start, at, inr (status, bad, refl))) (λ fs n at is. inr (start, at, is)) tells)

  module _ (start : Cell) (script : List Command) (given : AreGiven form files start script) where
    -- the journal or the disk ends the call
    pub keep_ends : (reads_now : ℕ) (status : Status) → IsKeepEnd start content now faults faults_now status
        → IsAskedOf form files reads reads_now content now faults faults_now images (Err status)
    keep_ends reads_now (BadJournal place) is = record { start = start; script = script; given = given; ends = is.0; same = is.1 }
    keep_ends reads_now DiskFault is = record { start = start; script = script; given = given; rose = is }
    keep_ends reads_now (JournalFull count) is = record { start = start; script = script; given = given; ends = is.0; same = is.1 }
    keep_ends reads_now NoMemory is = tt
    keep_ends reads_now Done is = absurd is
    keep_ends reads_now Usage is = absurd is
    keep_ends reads_now (Absent name) is = absurd is
    keep_ends reads_now (BadCell fault) is = absurd is
    keep_ends reads_now (BadScript session line code) is = absurd is
    keep_ends reads_now (ReadFault name) is = absurd is
    keep_ends reads_now WriteFault is = absurd is
    keep_ends reads_now (TooLarge name) is = absurd is
    keep_ends reads_now (BadOrder place) is = absurd is
    keep_ends reads_now (Stuck desk serial) is = absurd is
    keep_ends reads_now TooManyFindings is = absurd is
    keep_ends reads_now (BadUpdate fault) is = absurd is
    keep_ends reads_now (Refused refusal) is = absurd is
    keep_ends reads_now (OpRefused cause) is = absurd is

    -- the script was run
    pub kept_done : (reads_now : ℕ) (kept : Kept) (work : Work) → IsKept start script content now images kept
        → IsWorkOf form.out (Ok kept) (Ok work)
        → IsAskedOf form files reads reads_now content now faults faults_now images (Ok work)
    kept_done reads_now kept work is of_kept = record {
      start = start;
      script = script;
      commits = is.commits;
      given = given;
      journal = is.journal;
      few = is.few;
      ends = of_kept.0 ∙ (λ i. record { text = is.run.text_is i; file = Some (form.out, encoded_cell (is.run.cell_is i)) });
      read_back = subst (λ (d : Cell). decoded_cell (encoded_cell d) ≡ Ok d) is.run.cell_is of_kept.1;
      left = is.run.left;
    }

    -- the one or the other
    pub session_asked : (reads_now : ℕ) (kept : Result Kept Status) (result : Result Work Status) → IfOk kept (IsKept start script content now images)
        → IfErr kept (IsKeepEnd start content now faults faults_now) → IsWorkOf form.out kept result
        → IsAskedOf form files reads reads_now content now faults faults_now images result
    session_asked reads_now (Ok kept) (Ok work) run end is = kept_done reads_now kept work run is
    session_asked reads_now (Ok kept) (Err status) run end is =
        subst (λ (s : Status). IsAskedOf form files reads reads_now content now faults faults_now images (Err s)) (sym is) tt
    session_asked reads_now (Err why) (Ok work) run end is = absurd is
    session_asked reads_now (Err why) (Err status) run end is =
        subst (λ (s : Status). IsAskedOf form files reads reads_now content now faults faults_now images (Err s)) (sym is) (keep_ends reads_now why end)

-- a status at which the journal or the disk ends the call isn't one at which the disk isn't asked
pub touched : (c : Cell) (content now : Option (List ℕ)) (faults faults_now : ℕ) (status : Status) → IsKeepEnd c content now faults faults_now status
    → IsUntouched status → ⊥
touched c content now faults faults_now (BadJournal place) is un = un
touched c content now faults faults_now DiskFault is un = un
touched c content now faults faults_now (JournalFull count) is un = un
touched c content now faults faults_now NoMemory is un = un
touched c content now faults faults_now Done is un = is
touched c content now faults faults_now Usage is un = is
touched c content now faults faults_now (Absent name) is un = is
touched c content now faults faults_now (BadCell fault) is un = is
touched c content now faults faults_now (BadScript session line code) is un = is
touched c content now faults faults_now (ReadFault name) is un = is
touched c content now faults faults_now WriteFault is un = is
touched c content now faults faults_now (TooLarge name) is un = is
touched c content now faults faults_now (BadOrder place) is un = is
touched c content now faults faults_now (Stuck desk serial) is un = is
touched c content now faults faults_now TooManyFindings is un = is
touched c content now faults faults_now (BadUpdate fault) is un = is
touched c content now faults faults_now (Refused refusal) is un = is
touched c content now faults faults_now (OpRefused cause) is un = is

pub untouched_by : {D : Type 0} (old new : D) (c : Cell) (content now : Option (List ℕ)) (faults faults_now : ℕ) (out : List ℕ) (kept : Result Kept Status)
    (result : Result Work Status) → IfErr kept (IsKeepEnd c content now faults faults_now) → IsWorkOf out kept result
    → IfErr result (λ status. IsUntouched status → new ≡ old)
untouched_by old new c content now faults faults_now out (Ok kept) (Ok work) end is = tt
untouched_by old new c content now faults faults_now out (Ok kept) (Err status) end is = λ (un : IsUntouched status). absurd (subst IsUntouched is un)
untouched_by old new c content now faults faults_now out (Err why) (Ok work) end is = tt
untouched_by old new c content now faults faults_now out (Err why) (Err status) end is =
    λ (un : IsUntouched status). absurd (touched c content now faults faults_now why end (subst IsUntouched is un))

-- ---- what a crash leaves
module _ {D : Type 0} (moment : D → ℕ) (left_since : D → ℕ → List ℕ → Type 0) (images : D → List ℕ → Type 0) where
  -- before the disk is asked
  pub not_asked : (form : Option KeepForm) (files : Option Files) (content : Option (List ℕ)) (disk : D)
      → ((image : List ℕ) → left_since disk (moment disk) image → images disk image)
      → IfSome content (λ file. LeavesOnly moment left_since disk disk (IsImageIn form files file (images disk)))
  not_asked form files None disk now = tt
  not_asked None files (Some file) disk now = started moment left_since disk (IsImageIn None files file (images disk)) now
  not_asked (Some form) files (Some file) disk now =
      started moment left_since disk (IsImageIn (Some form) files file (images disk)) (λ image left. inl (now image left))

  -- while the journal is kept
  pub kept_meanwhile : (form : KeepForm) (files : Option Files) (content : Option (List ℕ)) (old new : D) (c : Cell) (script : List Command)
      → AreGiven form files c script → IfSome content (λ file. LeavesOnly moment left_since old new (IsKeptImage c script file (images old)))
      → IfSome content (λ file. LeavesOnly moment left_since old new (IsImageIn (Some form) files file (images old)))
  kept_meanwhile form files None old new c script given leaves = tt
  kept_meanwhile form files (Some file) old new c script given leaves =
      weakened moment left_since old new (IsKeptImage c script file (images old)) (IsImageIn (Some form) files file (images old)) leaves
      (λ image is. inr (record { start = c; script = script; given = given; is = is }))
