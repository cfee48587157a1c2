-- The edits of an update with the next record of its file, and the records that must be there.
use Rattle.std.proofs.Common.{◌≡◌, ◌≤◌, ◌<◌, ◌+◌, ℕ, Bool, false, List, ◌++◌, length, Option, Result, Ok, Err, refl, ap, ◌∙◌}
use Rattle.std.specs.Prelude.{IfErr, option_to_list}
use Rattle.std.specs.Result.{IsErrAnd}
use Rattle.frame_spec.specs.FrameDecision.{frame_at}
use Rattle.frame_spec.specs.RecordFrame.{Field, FrameView}
use Rattle.frame_spec.specs.declared.fault.FrameFault.{FrameFault}
use Rattle.s57_types.specs.declared.cell.Cell.{Cell}
use Rattle.cell_spec.specs.declared.edit.Edit.{Edit}
use Rattle.file_spec.specs.FileRecords.{FileRecord, records_after}
use Rattle.file_spec.specs.RecordFaults.{◌>>=◌, of_frame}
use Rattle.file_spec.proofs.RecordSteps.{records_after-end}
use Rattle.update_spec.specs.UpdateFaults.{update_fault_at}
use Rattle.update_spec.specs.UpdateRecords.{record_update}
use Rattle.update_spec.specs.UpdatedCell.{edits_of_records, edits_with, told_by_next}
use Rattle.update_spec.specs.declared.fault.UpdateFault.{UpdateFault}
use Rattle.update_spec.specs.declared.fault.UpdateFault.TheVariants.{Record}
use Rattle.cell_read.proofs.FileSteps.{found_before, read_none, read_on}
use Rattle.update_apply.specs.FileParts.{edits_of_data}
use Rattle.update_apply.specs.Gives.{GivesNext, Refuses, RefusesAt}
use Rattle.update_apply.specs.declared.refusal.StepRefusal.{StepRefusal}
use Rattle.update_apply.specs.declared.refusal.StepRefusal.TheVariants.{Fault, NoMemory}

module _ (c : Cell) (level number : ℕ) (edits : List Edit) (b : List ℕ) (at : ℕ) where
  -- at the end of the file
  pub edits-end : length b ≤ at → edits_with c level number edits (records_after b at false) ≡ Ok edits
  unfolding edits_with
  edits-end past = ap (edits_with c level number edits) (records_after-end b at false past)

  -- no record stands there
  pub edits-frame_fault : {X : Type 0} (fault : FrameFault) (r : Result X StepRefusal) → IsErrAnd r (λ e. e ≡ Fault (Record (of_frame fault)))
      → at < length b → frame_at b at false ≡ Err fault → IfErr r (λ e. RefusesAt number at e (edits_with c level number edits (records_after b at false)))
  unfolding edits_with
  edits-frame_fault fault (Ok x) told before is = tt
  edits-frame_fault fault (Err e) told before is = rw told (read_on (edits_with c level number edits) b at false (Err fault) before is)

  -- the record there has a fault
  pub edits-refused : (frame : FrameView) (e : StepRefusal) → at < length b → frame_at b at false ≡ Ok frame
      → Refuses e (record_update c level number edits frame.fields)
      → RefusesAt number at e (edits_with c level number edits (records_after b at false))
  unfolding edits_with
  edits-refused frame (Fault fault) before is said = read_on (edits_with c level number edits) b at false (Ok frame) before is ∙ (rw said refl)
  edits-refused frame NoMemory before is said = tt

  -- the record there stands for an edit, or for none
  pub edits-next : (frame : FrameView) (edit : Option Edit) → at < length b → frame_at b at false ≡ Ok frame
      → record_update c level number edits frame.fields ≡ Ok edit
      → edits_with c level number edits (records_after b at false)
      ≡ edits_with c level (number + 1) (edits ++ option_to_list edit) (records_after b (at + frame.length) false)
  unfolding edits_with
  edits-next frame edit before is said = read_on (edits_with c level number edits) b at false (Ok frame) before is ∙ (rw said refl)

module _ {X : Type 0} (number : ℕ) (meaning : List Field → Result X UpdateFault) (b : List ℕ) (at : ℕ) (first : Bool) where
  -- the record that must be there has a fault of its frame, or isn't there
  pub next-frame_fault : (fault : FrameFault) (r : StepRefusal) → r ≡ Fault (Record (of_frame fault)) → at ≤ length b → frame_at b at first ≡ Err fault
      → RefusesAt number at r (told_by_next number (length b) meaning (records_after b at first))
  next-frame_fault fault r refused within is = rw refused
      (read_none (told_by_next number (length b) meaning) (λ n f. Err (update_fault_at number n (Record (of_frame f)))) b at first fault within is refl refl)

  pub next-no_frame : (fault : FrameFault) (r : Result (X × ℕ) StepRefusal) → IsErrAnd r (λ e. e ≡ Fault (Record (of_frame fault))) → at ≤ length b
      → frame_at b at first ≡ Err fault → GivesNext b first number at meaning r
  next-no_frame fault (Ok x) told within is = absurd told
  next-no_frame fault (Err e) told within is = next-frame_fault fault e told within is

  pub next-said : (frame : FrameView) (x : X) → frame_at b at first ≡ Ok frame → meaning frame.fields ≡ Ok x
      → told_by_next number (length b) meaning (records_after b at first) ≡ Ok (x, records_after b (at + frame.length) false)
  next-said frame x is said = read_on (told_by_next number (length b) meaning) b at first (Ok frame) (found_before b at first frame is) is ∙ (rw said refl)

  pub next-refused : (frame : FrameView) (e : StepRefusal) → frame_at b at first ≡ Ok frame → Refuses e (meaning frame.fields)
      → RefusesAt number at e (told_by_next number (length b) meaning (records_after b at first))
  next-refused frame (Fault fault) is said =
      read_on (told_by_next number (length b) meaning) b at first (Ok frame) (found_before b at first frame is) is ∙ (rw said refl)
  next-refused frame NoMemory is said = tt

-- behind the descriptive record
pub update_parts : (c : Cell) (end : ℕ) (file : List FileRecord)
    → edits_of_records c end file ≡ (told_by_next 1 end Ok file >>= λ d. edits_of_data c end d.1)
unfolding edits_of_records
update_parts c end file = refl
