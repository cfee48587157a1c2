-- An update file as one commit: what refuses it, what it leaves, and what words and files ask for.
use Rattle.std.proofs.Common.{◌≡◌, ◌⊎◌, inl, inr, ℕ, ◌≤◌, List, Option, Result, Ok, Err, refl, sym, ap, ◌∙◌, subst}
use Rattle.std.specs.Prelude.{IfOk, IfSome}
use Rattle.edit_sets.specs.FormFault.{GuardedEdits}
use Rattle.enc_outside.specs.Files.{Files}
use Rattle.file_spec.specs.DecodedCell.{decoded_cell}
use Rattle.file_spec.specs.EncodedCell.{encoded_cell}
use Rattle.s57_types.specs.declared.cell.Cell.{Cell}
use Rattle.s57_types.specs.declared.fault.CellFault.{CellFault}
use Rattle.update_apply.specs.Gives.{IsUpdate}
use Rattle.update_spec.specs.UpdatedCell.{updated_cell}
use Rattle.enc_top.specs.Commits.{IsCommitStatus, committed}
use Rattle.call_files.specs.Inputs.{CellIs, FileIs, IsFile, IsInputStatus, IsJudged, IsNotOfText, Tells, cell_limit}
use Rattle.enc_top.specs.Inputs.{IsInputOf, IsReached, OutputIs}
use Rattle.enc_top.specs.Outcome.{IsAskedBy}
use Rattle.enc_top.specs.Task.{left_task}
use Rattle.call_files.specs.Task.{task_of}
use Rattle.enc_top.specs.Updates.{IsUpdateEnd, left_by_update, refusal_of_edits, update_refusal, updated}
use Rattle.enc_top.specs.Words.{Form, apply_form}
use Rattle.call_files.specs.declared.work.Work.{Work}
use Rattle.report_text.specs.declared.status.Status.{Status}
use Rattle.report_text.specs.declared.status.Status.TheVariants.{BadUpdate, NoMemory, Refused}
use Rattle.enc_top.proofs.Answered.{asked_status, fits_no_text}
use Rattle.call_files.proofs.Answered.{both_told, status_of_more, tells_first, tells_later}
use Rattle.enc_top.proofs.CommitWork.{left_is}

-- ---- an update
pub update_end : (status : Status) → IsCommitStatus status → IsUpdateEnd status
update_end (BadUpdate fault) is = tt
update_end other is = is

module _ (c : Cell) (bytes : List ℕ) where
  updated_by : (set : GuardedEdits) → IsUpdate c bytes set → updated c bytes ≡ committed c set.edits
  updated_by set is = λ i. left_by_update (refusal_of_edits c (is.edits_are i)) (is.cell_is i)

  pub judged_update : (set : GuardedEdits) (result : Result Cell Status) → IsUpdate c bytes set
      → IsJudged (λ (d : Cell). d) (committed c set.edits) result → IsJudged (λ (d : Cell). d) (updated c bytes) result
  judged_update set result is judged =
      subst (λ (expected : Result Cell Status). IsJudged (λ (d : Cell). d) expected result) (sym (updated_by set is)) judged

  -- the cell that is left is the one that the records make
  pub left_cell : (set : GuardedEdits) (result : Result Cell Status) → IsUpdate c bytes set
      → IsJudged (λ (d : Cell). d) (committed c set.edits) result → IfOk result (λ (d : Cell). updated_cell c bytes ≡ Ok d)
  left_cell set (Ok d) is judged = is.cell_is ∙ ap (λ (e : Cell). Ok e) (left_is c set.edits d judged)
  left_cell set (Err status) is judged = tt

  pub refused_update : (fault : CellFault) → updated_cell c bytes ≡ Err fault → updated c bytes ≡ Err (BadUpdate fault)
  refused_update fault is = ap (left_by_update (update_refusal c bytes)) is

-- ---- the whole
module _ (cell out update : List ℕ) (files : Option Files) (before : ℕ) where
  abbrev form : Form
  form = apply_form cell out update

  pub cell_ends : (after : ℕ) (status : Status) → IsNotOfText status → IsInputStatus (λ n. n ≡ cell) status
      → Tells (λ (c : Cell). c) (CellIs cell) (IsFile cell) files before after (Err status) → IsAskedBy ⊥ form files before after (Err status)
  cell_ends after status text is tells =
      asked_status ⊥ form files before after status tt (fits_no_text form status text)
      (status_of_more (λ n. n ≡ cell) (IsInputOf form) status (λ n same. inl same) is)
      (tells_first (λ (c : Cell). c) task_of (CellIs cell) (OutputIs form) (IsFile cell) (IsReached form) files before after status
      (λ fs bad. inr (status, bad, refl)) (λ fs n is. inl is) tells)

  module _ (start : Cell) (good : IfSome files (λ fs. CellIs cell fs (Ok start))) where
    pub file_ends : {A : Type 0} (seen : A → List ℕ) (mid after : ℕ) (status : Status) → before ≤ mid → IsNotOfText status
        → IsInputStatus (λ n. n ≡ update) status
        → Tells seen (FileIs cell_limit update) (IsFile update) files mid after (Err status) → IsAskedBy ⊥ form files before after (Err status)
    file_ends seen mid after status le text is tells =
        asked_status ⊥ form files before after status tt (fits_no_text form status text)
        (status_of_more (λ n. n ≡ update) (IsInputOf form) status (λ n same. inr same) is)
        (tells_later seen task_of (FileIs cell_limit update) (OutputIs form) (IsFile update) (IsReached form) (λ fs. CellIs cell fs (Ok start)) files
        before mid after status le good (λ fs at bad. inl (start, at, inr (status, bad, refl))) (λ fs n at is. inr (start, at, is)) tells)

    module _ (bytes : List ℕ) (given : IfSome files (λ fs. FileIs cell_limit update fs (Ok bytes))) (after : ℕ) where
      ends_so : (status : Status) → updated start bytes ≡ Err status → IfSome files (λ fs. OutputIs form fs (Err status))
      ends_so status is = both_told files good given (λ fs at read. inl (start, at, inl (bytes, read, inr (status, is, refl))))

      asked_end : (status : Status) → IsUpdateEnd status → IfSome files (λ fs. OutputIs form fs (Err status)) → IsAskedBy ⊥ form files before after (Err status)
      asked_end NoMemory is so = tt
      asked_end (BadUpdate fault) is so = (tt, tt, so)
      asked_end (Refused why) is so = (tt, is, tt, so)
      asked_end other is so = absurd is

      pub update_ends : (status : Status) → (updated start bytes ≡ Err status) ⊎ (status ≡ NoMemory) → IsUpdateEnd status
          → IsAskedBy ⊥ form files before after (Err status)
      update_ends status (inl is) end = asked_end status end (ends_so status is)
      update_ends status (inr none) end = subst (λ (s : Status). IsAskedBy ⊥ form files before after (Err s)) (sym none) tt

      pub update_done : (left : Cell) (work : Work) → updated start bytes ≡ Ok left → updated_cell start bytes ≡ Ok left
          → decoded_cell (encoded_cell left) ≡ Ok left → task_of work ≡ left_task left out → IsAskedBy ⊥ form files before after (Ok work)
      update_done left work is made back task = (
        record {
          start = start;
          told = good;
          bytes = bytes;
          given = given;
          left = left;
          left_by = record { is_left = is; cell_is = made; read_back = back };
          is = task;
        },
        both_told files good given (λ fs at read. inl (start, at, inl (bytes, read, inl (left, is, ap Ok task)))),
      )
