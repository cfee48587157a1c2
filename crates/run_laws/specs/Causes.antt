-- Why a desk has its answer, and what the answer leaves of the history. This project's own rules.
use Rattle.std.specs.Prelude.{◌≡◌, ℕ, ◌+◌, List, [], ◌∷◌, ◌++◌, length, take, slice_get, Some}
use Rattle.s57_types.specs.declared.name.RecName.{RecName}
use Rattle.cell_spec.specs.Edits.{apply_edits}
use Rattle.cell_spec.specs.declared.edit.Edit.{Edit}
use Rattle.rule_spec.specs.Findings.{finding_total}
use Rattle.edit_sets.specs.FormFault.{IsFormed, form_fault}
use Rattle.edit_sets.specs.declared.fault.FormFault.{FormFault}
use Rattle.history_spec.specs.Sessions.{Request, see, offer, history_after, replies_from}
use Rattle.history_spec.specs.Steps.{History, state_refusal}
use Rattle.history_spec.specs.declared.refusal.StateRefusal.{StateRefusal}
use Rattle.history_spec.specs.declared.reply.Reply.{Reply}
use Rattle.history_spec.specs.declared.reply.Reply.TheVariants.{Viewed, Formed, Newer, Refused, Accepted}
use Rattle.run_laws.specs.Contests.{AreUncontested, ShowsNewer}
use Rattle.run_laws.specs.Faults.{ShowsFault}
use Rattle.run_laws.specs.Refusals.{AreTaken, ShowsRefusal}

-- a desk's base is now this number, and the others' bases are what they were
pub record IsBaseMoved (desk number : ℕ) (before after : ℕ → ℕ) : Type 0 where
  pub own : after desk ≡ number
  pub others : (other : ℕ) → ¬ (other ≡ desk) → after other ≡ before other

-- a view tells how many commits were accepted and how many findings the cell has, and the desk goes on from there
pub record IsSeen (h : History) (desk number findings : ℕ) (after : History) : Type 0 where
  pub number_is : number ≡ length h.commits
  pub findings_are : findings ≡ finding_total h.cell
  pub cell_stays : after.cell ≡ h.cell
  pub commits_stay : after.commits ≡ h.commits
  pub base : IsBaseMoved desk number h.bases after.bases

-- a draft is refused for its fault of form, at the cell's lexical level
pub record IsRefusedForm (h : History) (edits : List Edit) (guards : List RecName) (fault : FormFault) (after : History) : Type 0 where
  pub fault_is : form_fault h.cell.head.nall edits guards ≡ Some fault
  pub shows : ShowsFault h.cell.head.nall edits guards fault
  pub stays : after ≡ h

-- a draft without such a fault is refused for a commit above the desk's base
pub record IsRefusedByNewer (h : History) (desk : ℕ) (edits : List Edit) (guards : List RecName) (number : ℕ) (name : RecName) (other : ℕ) (edit : Edit)
    (after : History) : Type 0 where
  pub formed : IsFormed h.cell.head.nall edits guards
  pub shows : ShowsNewer h.commits (h.bases desk) edits guards number name other edit
  pub stays : after ≡ h

-- a draft that nothing newer stands against is refused because of the cell
pub record IsRefusedByCell (h : History) (desk : ℕ) (edits : List Edit) (guards : List RecName) (why : StateRefusal) (after : History) : Type 0 where
  pub formed : IsFormed h.cell.head.nall edits guards
  pub uncontested : AreUncontested h.commits (h.bases desk) edits guards
  pub why_is : state_refusal h.cell edits ≡ Some why
  pub shows : ShowsRefusal h.cell edits why
  pub stays : after ≡ h

-- a draft that nothing speaks against is the next commit, and makes the cell
pub record IsTaken (h : History) (desk : ℕ) (edits : List Edit) (guards : List RecName) (number findings : ℕ) (after : History) : Type 0 where
  pub formed : IsFormed h.cell.head.nall edits guards
  pub uncontested : AreUncontested h.commits (h.bases desk) edits guards
  pub taken : AreTaken h.cell edits
  pub number_is : number ≡ length h.commits + 1
  pub cell_is : after.cell ≡ apply_edits edits h.cell
  pub findings_are : findings ≡ finding_total after.cell
  pub commits_are : after.commits ≡ h.commits ++ (record { desk = desk; edits = edits } ∷ [])
  pub base : IsBaseMoved desk number h.bases after.bases

-- the answer to what a desk asks has its cause in the history before it, and leaves the history after it
abbrev pub TellsItsCause : History → ℕ → Request → Reply → History → Type 0
TellsItsCause h desk see (Viewed number findings) after = IsSeen h desk number findings after
TellsItsCause h desk (offer edits guards) (Formed fault) after = IsRefusedForm h edits guards fault after
TellsItsCause h desk (offer edits guards) (Newer number name other edit) after = IsRefusedByNewer h desk edits guards number name other edit after
TellsItsCause h desk (offer edits guards) (Refused why) after = IsRefusedByCell h desk edits guards why after
TellsItsCause h desk (offer edits guards) (Accepted number findings) after = IsTaken h desk edits guards number findings after
TellsItsCause h desk request reply after = ⊥

-- of requests one after the other the one at a place, counted from 0, has its answer there, with its cause in the history that those before it leave
pub record IsAnswered (h : History) (requests : List (ℕ × Request)) (place desk : ℕ) (request : Request) : Type 0 where
  pub reply : Reply
  pub told : slice_get (replies_from h requests) place ≡ Some (desk, reply)
  pub cause : TellsItsCause (history_after h (take place requests)) desk request reply (history_after h (take (place + 1) requests))
