-- An operation on edges as one commit: what refuses it, what it leaves, and what words and files ask for.
use Rattle.std.proofs.Common.{◌≡◌, ◌⊎◌, inl, inr, ℕ, true, List, [], Option, Some, None, Result, Ok, Err, refl, sym, ap, ◌∙◌, subst}
use Rattle.std.specs.Prelude.{IfOk, IfSome, option_map}
use Rattle.std.specs.Option.{option_map_or}
use Rattle.cell_spec.specs.Edits.{apply_edits, find_their_records}
use Rattle.edit_sets.specs.FormFault.{GuardedEdits}
use Rattle.enc_outside.specs.Files.{Files}
use Rattle.file_spec.specs.DecodedCell.{decoded_cell}
use Rattle.file_spec.specs.EncodedCell.{encoded_cell}
use Rattle.s57_types.specs.declared.cell.Cell.{Cell}
use Rattle.topo_ops.specs.Refusals.{IsRefusal}
use Rattle.topo_ops.specs.declared.refusal.OpRefusal.{OpRefusal}
use Rattle.topo_ops.specs.declared.refusal.OpRefusal.TheVariants as op
use Rattle.enc_top.specs.declared.operation.Operation.{Operation}
use Rattle.enc_top.specs.declared.operation.Operation.TheVariants.{Split, Join}
use Rattle.enc_top.specs.Commits.{IsCommitStatus, committed}
use Rattle.call_files.specs.Inputs.{CellIs, IsFile, IsInputStatus, IsJudged, IsNotOfText, Tells}
use Rattle.enc_top.specs.Inputs.{IsInputOf, IsReached, OutputIs}
use Rattle.enc_top.specs.Operations.{IsOperation, IsOperationEnd, IsOperationStatus, OperationKeeps, operated, operation_edits, operation_refusal}
use Rattle.enc_top.specs.Operations.{refused_operation}
use Rattle.enc_top.specs.Outcome.{IsAskedBy}
use Rattle.enc_top.specs.Task.{left_task}
use Rattle.call_files.specs.Task.{task_of}
use Rattle.enc_top.specs.Words.{Form, edge_form}
use Rattle.call_files.specs.declared.work.Work.{Work}
use Rattle.report_text.specs.declared.status.Status.{Status}
use Rattle.report_text.specs.declared.status.Status.TheVariants.{NoMemory, OpRefused, Refused}
use Rattle.enc_top.proofs.Answered.{asked_status, fits_no_text}
use Rattle.call_files.proofs.Answered.{both_told, status_of_more, tells_first}
use Rattle.enc_top.proofs.CommitWork.{left_is}

-- ---- the edits of an operation
module _ (c : Cell) where
  pub possible : (operation : Operation) (set : GuardedEdits) → IsOperation c operation set → operation_refusal c operation ≡ None
  possible (Split edge at node fresh) set is = is.not_refused
  possible (Join edge other) set is = is.not_refused

  pub edits_are : (operation : Operation) (set : GuardedEdits) → IsOperation c operation set → set.edits ≡ operation_edits c operation
  edits_are (Split edge at node fresh) set is = is.edits_are
  edits_are (Join edge other) set is = is.edits_are

  pub no_guards : (operation : Operation) (set : GuardedEdits) → IsOperation c operation set → set.guards ≡ []
  no_guards (Split edge at node fresh) set is = is.guards_are
  no_guards (Join edge other) set is = is.guards_are

  pub level_is : (operation : Operation) (set : GuardedEdits) → IsOperation c operation set → set.nall ≡ c.head.nall
  level_is (Split edge at node fresh) set is = is.nall_is
  level_is (Join edge other) set is = is.nall_is

  pub found : (operation : Operation) (set : GuardedEdits) → IsOperation c operation set → find_their_records set.edits c ≡ true
  found (Split edge at node fresh) set is = is.found
  found (Join edge other) set is = is.found

  keeps : (operation : Operation) (set : GuardedEdits) → IsOperation c operation set → OperationKeeps c (apply_edits set.edits c) operation
  keeps (Split edge at node fresh) set is = is.kept
  keeps (Join edge other) set is = is.kept

-- ---- the status of a refused operation
told_alone : (rule : Option OpRefusal) (why : OpRefusal) → (why ≡ op.NoMemory → ⊥) → IsRefusal rule why → rule ≡ Some why
told_alone rule (op.NoEdge id) other is = is
told_alone rule (op.BadPlace last) other is = is
told_alone rule (op.NameTaken name) other is = is
told_alone rule op.NotAChain other is = is
told_alone rule (op.NodeUsed from place) other is = is
told_alone rule op.AttrsDiffer other is = is
told_alone rule (op.NotPaired id place) other is = is
told_alone rule (op.VersionEnd name) other is = is
told_alone rule (op.Form fault) other is = is
told_alone rule op.NoMemory other is = absurd (other refl)

pub told_cause : (rule : Option OpRefusal) (why : OpRefusal) → (why ≡ op.NoMemory → ⊥) → IsRefusal rule why → IsOperationStatus rule (refused_operation why)
told_cause rule why other is = inl (ap (option_map refused_operation) (told_alone rule why other is))

-- ---- an operation
pub commit_end : (status : Status) → IsCommitStatus status → IsOperationEnd status
commit_end (OpRefused cause) is = tt
commit_end other is = is

module _ (c : Cell) (operation : Operation) where
  abbrev of_rule : Option OpRefusal → Result Cell Status → Result Cell Status
  of_rule rule rest = option_map_or (λ why. Err (refused_operation why)) rule rest

  operated_by : (set : GuardedEdits) → IsOperation c operation set → operated c operation ≡ committed c set.edits
  operated_by set is =
      ap (λ rule. of_rule rule (committed c (operation_edits c operation))) (possible c operation set is)
      ∙ ap (committed c) (sym (edits_are c operation set is))

  pub judged_operation : (set : GuardedEdits) (result : Result Cell Status) → IsOperation c operation set
      → IsJudged (λ (d : Cell). d) (committed c set.edits) result → IsJudged (λ (d : Cell). d) (operated c operation) result
  judged_operation set result is judged =
      subst (λ (expected : Result Cell Status). IsJudged (λ (d : Cell). d) expected result) (sym (operated_by set is)) judged

  pub kept_operation : (set : GuardedEdits) (result : Result Cell Status) → IsOperation c operation set
      → IsJudged (λ (d : Cell). d) (committed c set.edits) result → IfOk result (λ (d : Cell). OperationKeeps c d operation)
  kept_operation set (Ok d) is judged = subst (λ (e : Cell). OperationKeeps c e operation) (left_is c set.edits d judged) (keeps c operation set is)
  kept_operation set (Err status) is judged = tt

  same_some : (x y : Status) → ◌≡◌ {A = Option Status} (Some x) (Some y) → x ≡ y
  same_some x y e = cc

  none_some : (x : Status) → ◌≡◌ {A = Option Status} None (Some x) → ⊥
  none_some x e = cc

  pub refused_status : (status : Status) → IsOperationStatus (operation_refusal c operation) status
      → (operated c operation ≡ Err status) ⊎ (status ≡ NoMemory)
  refused_status status (inr out) = inr out
  refused_status status (inl is) = inl (by (operation_refusal c operation) is)
    where
      by : (rule : Option OpRefusal) → option_map refused_operation rule ≡ Some status → of_rule rule (committed c (operation_edits c operation)) ≡ Err status
      by None e = absurd (none_some status e)
      by (Some why) e = ap (λ (s : Status). Err s) (same_some (refused_operation why) status e)

-- ---- the whole
module _ (cell out : List ℕ) (operation : Operation) (files : Option Files) (before after : ℕ) where
  abbrev form : Form
  form = edge_form cell out operation

  pub cell_ends : (status : Status) → IsNotOfText status → IsInputStatus (λ n. n ≡ cell) status
      → Tells (λ (c : Cell). c) (CellIs cell) (IsFile cell) files before after (Err status) → IsAskedBy ⊥ form files before after (Err status)
  cell_ends status text is tells =
      asked_status ⊥ form files before after status tt (fits_no_text form status text)
      (status_of_more (λ n. n ≡ cell) (IsInputOf form) status (λ n same. same) is)
      (tells_first (λ (c : Cell). c) task_of (CellIs cell) (OutputIs form) (IsFile cell) (IsReached form) files before after status
      (λ fs bad. inr (status, bad, refl)) (λ fs n is. is) tells)

  module _ (start : Cell) (good : IfSome files (λ fs. CellIs cell fs (Ok start))) where
    ends_so : (status : Status) → operated start operation ≡ Err status → IfSome files (λ fs. OutputIs form fs (Err status))
    ends_so status is = both_told files good good (λ fs at again. inl (start, at, inr (status, is, refl)))

    asked_end : (status : Status) → IsOperationEnd status → IfSome files (λ fs. OutputIs form fs (Err status)) → IsAskedBy ⊥ form files before after
        (Err status)
    asked_end NoMemory is so = tt
    asked_end (Refused why) is so = (tt, is, tt, so)
    asked_end (OpRefused cause) is so = (tt, tt, so)
    asked_end other is so = absurd is

    pub operation_ends : (status : Status) → (operated start operation ≡ Err status) ⊎ (status ≡ NoMemory) → IsOperationEnd status
        → IsAskedBy ⊥ form files before after (Err status)
    operation_ends status (inl is) end = asked_end status end (ends_so status is)
    operation_ends status (inr none) end = subst (λ (s : Status). IsAskedBy ⊥ form files before after (Err s)) (sym none) tt

    pub operation_done : (left : Cell) (work : Work) → operated start operation ≡ Ok left → OperationKeeps start left operation
        → decoded_cell (encoded_cell left) ≡ Ok left → task_of work ≡ left_task left out → IsAskedBy ⊥ form files before after (Ok work)
    operation_done left work is kept back task = (
      record { start = start; told = good; left = left; left_by = record { is_left = is; kept = kept; read_back = back }; is = task },
      both_told files good good (λ fs at again. inl (start, at, inl (left, is, ap Ok task))),
    )
