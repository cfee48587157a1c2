-- What a session's commit asks of the history.
use Rattle.std.proofs.Common.{◌≡◌, ℕ, List, Some, Result, Ok, Err, sym, ap, ◌∙◌, subst}
use Rattle.std.specs.Prelude.{IfOk}
use Rattle.std.specs.Option.{option_map_or}
use Rattle.s57_types.specs.declared.cell.Cell.{Cell}
use Rattle.s57_types.specs.declared.name.RecName.{RecName}
use Rattle.cell_bench.specs.Benches.{PreparedCommit}
use Rattle.cell_spec.specs.declared.edit.Edit.{Edit}
use Rattle.commit_book.specs.Books.{BookState, IsEntered}
use Rattle.commit_book.specs.Prepared.{AreRight}
use Rattle.commit_book.specs.declared.refusal.BookRefusal.{BookRefusal}
use Rattle.commit_book.specs.declared.told.Answered.{Answered}
use Rattle.edit_sets.specs.FormFault.{GuardedEdits, IsSetOf, form_fault}
use Rattle.edit_sets.specs.declared.fault.FormFault.{FormFault}
use Rattle.history_spec.specs.declared.entry.Asked.TheVariants.{Commit, Faulty}
use Rattle.history_spec.specs.declared.entry.Entry.{Entry}
use Rattle.history_spec.specs.declared.reply.Reply.{Reply}
use Rattle.history_spec.specs.EntriesReport.{cell_told}
use Rattle.history_spec.specs.Served.{Draft}
use Rattle.history_spec.specs.Sessions.{event_of, offer}
use Rattle.history_spec.specs.Steps.{commit, faulty}
use Rattle.room_laws.proofs.Bases.{level_told}
use Rattle.rule_spec.specs.Affected.{RowsAreExact}
use Rattle.sessions.specs.Replays.{IsAskedOf, IsReplyOf}
use Rattle.sessions.specs.declared.session.Shared.TheVariants as shared

-- a draft without a fault is committed
pub commit_event : (nall base : ℕ) (edits : List Edit) (guards : List RecName) (set : GuardedEdits) → IsSetOf nall edits guards set
    → commit base set.edits set.guards ≡ event_of nall base (offer edits guards)
commit_event nall base edits guards set is = (λ i. commit base (is.edits_are i) (is.guards_are i))
    ∙ sym (ap (λ o. option_map_or faulty o (commit base edits guards)) is.no_fault)

-- a draft with a fault is told it
pub fault_event : (nall base : ℕ) (edits : List Edit) (guards : List RecName) (fault : FormFault) → form_fault nall edits guards ≡ Some fault
    → faulty fault ≡ event_of nall base (offer edits guards)
fault_event nall base edits guards fault is = sym (ap (λ o. option_map_or faulty o (commit base edits guards)) is)

-- a copy of the cell after a base has the level of the opening
pub level_of_copy : (c : Cell) (entries : List Entry) (base : ℕ) (copy : Cell) → copy ≡ cell_told c entries base → copy.head.nall ≡ c.head.nall
level_of_copy c entries base copy is = ap (λ (d : Cell). d.head.nall) is ∙ level_told c entries base

-- rows that are right on a copy of the cell after a base are right in the log
pub right_in_log : (c : Cell) (entries : List Entry) (base : ℕ) (copy : Cell) (set : GuardedEdits) (prepared : PreparedCommit)
    → copy ≡ cell_told c entries base → prepared.base ≡ base → prepared.edits ≡ set
    → RowsAreExact set.edits copy prepared.rows → AreRight c entries prepared
right_in_log c entries base copy set prepared is base_is edits_are right =
    subst (λ (d : Cell). RowsAreExact prepared.edits.edits d prepared.rows) (is ∙ ap (cell_told c entries) (sym base_is))
    (subst (λ (edits : GuardedEdits). RowsAreExact edits.edits copy prepared.rows) (sym edits_are) right)

-- what a session's draft prepares stands in the log
pub commit_asked : (old new : BookState) (number base nall : ℕ) (draft : Draft) (set : GuardedEdits) (prepared : PreparedCommit) (reply : Reply)
    → nall ≡ old.opening.head.nall → IsSetOf nall draft.edits draft.guards set
    → prepared.base ≡ base → prepared.edits ≡ set → IsEntered old number (Commit prepared.base prepared.edits) new reply
    → IsAskedOf old number base draft shared.Commit new reply
commit_asked old new number base nall draft set prepared reply level is base_is edits_are entered = record {
  asked = Commit prepared.base prepared.edits;
  event = (λ i. commit (base_is i) (edits_are i).edits (edits_are i).guards) ∙ commit_event nall base draft.edits draft.guards set is
      ∙ ap (λ n. event_of n base (offer draft.edits draft.guards)) level;
  entered = entered;
}

-- and so does its fault
pub fault_asked : (old new : BookState) (number base nall : ℕ) (draft : Draft) (fault : FormFault) (reply : Reply) → nall ≡ old.opening.head.nall
    → form_fault nall draft.edits draft.guards ≡ Some fault
    → IsEntered old number (Faulty fault) new reply → IsAskedOf old number base draft shared.Commit new reply
fault_asked old new number base nall draft fault reply level is entered = record {
  asked = Faulty fault;
  event = fault_event nall base draft.edits draft.guards fault is ∙ ap (λ n. event_of n base (offer draft.edits draft.guards)) level;
  entered = entered;
}

-- what an answer of the log says, its reply says
pub said_by : {E : Type 0} (answered : Result Answered BookRefusal) (told : Result Reply E) (Entered Said : Reply → Type 0)
    → IfOk told (IsReplyOf answered) → IfOk answered (λ (a : Answered). Entered a.reply) → ((reply : Reply) → Entered reply → Said reply) → IfOk told Said
said_by (Ok a) (Ok reply) Entered Said is entered says = says reply (subst Entered (sym is) entered)
said_by (Err why) (Ok reply) Entered Said is entered says = absurd is
said_by answered (Err e) Entered Said is entered says = tt
