-- A run of scripts leaves a writable cell.
use Rattle.std.proofs.Common.{◌≡◌, ℕ, ◌+◌, Bool, true, false, List, [], ◌∷◌, length, Option, None, Some, refl, sym, ap, subst, ◌∙◌}
use Rattle.std.specs.Prelude.{IfSome, drop, filter_map}
use Rattle.std.specs.List.{AllByRecursion, cons_option, enumerate_from}
use Rattle.std.specs.Option.{option_map, option_map_or, option_and_then}
use Rattle.s57_types.specs.declared.name.RecName.{RecName}
use Rattle.s57_types.specs.declared.cell.Cell.{Cell}
use Rattle.cell_spec.specs.Ascending.{ascending}
use Rattle.cell_spec.specs.Edits.{apply_edits, edit_of, is_applicable}
use Rattle.cell_spec.specs.Names.{name_order}
use Rattle.cell_spec.specs.Writable.{IsWritable}
use Rattle.cell_spec.specs.declared.edit.Edit.{Edit}
use Rattle.edit_sets.specs.FormFault.{form_fault}
use Rattle.edit_sets.specs.declared.fault.FormFault.{FormFault}
use Rattle.rule_spec.specs.Findings.{finding_total}
use Rattle.history_spec.specs.ReportText.{final_cell}
use Rattle.history_spec.specs.Sessions.{Request, see, offer, request_step, history_after, ordered_requests}
use Rattle.history_spec.specs.Steps.{History, AcceptedCommit, Event, faulty, commit, answer, left_after, first_of, clash_with, contested_names, newer_answer}
use Rattle.history_spec.specs.Steps.{state_refusal, commit_answer, opening}
use Rattle.history_spec.specs.declared.refusal.StateRefusal.{StateRefusal}
use Rattle.history_spec.specs.declared.reply.Reply.{Reply}
use Rattle.history_spec.specs.declared.reply.Reply.TheVariants.{Viewed, Formed, Newer, Refused, Accepted}
use Rattle.edit_laws.specs.KeptWritable.{RunsLeaveWritable, is_taken}
use Rattle.answer_laws.proofs.EditedCell.{edits_keep_writable}
use Rattle.edit_laws.proofs.Refusals.{refusals_are_exact}

abbrev is_accepted : Reply → Bool
is_accepted (Viewed number findings) = false
is_accepted (Formed fault) = false
is_accepted (Newer number name desk edit) = false
is_accepted (Refused refusal) = false
is_accepted (Accepted number findings) = true

abbrev IsOther : Reply → Type 0
IsOther reply = is_accepted reply ≡ false

-- only an accepted commit changes the cell
other_keeps : (desk : ℕ) (event : Event) (reply : Reply) (h : History) → IsOther reply → (left_after desk event reply h).cell ≡ h.cell
other_keeps desk event (Viewed number findings) h other = refl
other_keeps desk event (Formed fault) h other = refl
other_keeps desk event (Newer number name desk' edit) h other = refl
other_keeps desk event (Refused refusal) h other = refl
other_keeps desk event (Accepted number findings) h other = absurd cc

-- the answer of a newer commit isn't that a commit is accepted
newer_of : (number desk : ℕ) (n : RecName) (edit : Option Edit) → IfSome (option_map (Newer number n desk) edit) IsOther
newer_of number desk n None = tt
newer_of number desk n (Some edit) = refl

clash_of : (number desk : ℕ) (least : Option RecName) (edits : List Edit)
    → IfSome (option_and_then (λ n. option_map (Newer number n desk) (edit_of n edits)) least) IsOther
clash_of number desk None edits = tt
clash_of number desk (Some n) edits = newer_of number desk n (edit_of n edits)

first_is_other : (one : Option Reply) (rest : List Reply) → IfSome one IsOther → IfSome (first_of rest) IsOther
    → IfSome (first_of (cons_option one rest)) IsOther
first_is_other None rest one others = others
first_is_other (Some reply) rest one others = one

clashes_are_other : (edits : List Edit) (guards : List RecName) (commits : List (ℕ × AcceptedCommit))
    → IfSome (first_of (filter_map (clash_with edits guards) commits)) IsOther
clashes_are_other edits guards [] = tt
clashes_are_other edits guards (c ∷ commits) =
    first_is_other (clash_with edits guards c) (filter_map (clash_with edits guards) commits)
    (clash_of c.0 c.1.desk (first_of (ascending name_order (contested_names edits guards c.1.edits))) c.1.edits)
    (clashes_are_other edits guards commits)

-- a commit of edits without a fault of form
taken_when_none : (c : Cell) (edits : List Edit) → state_refusal c edits ≡ None → is_applicable edits c ≡ true
taken_when_none c edits none = sym (refusals_are_exact c edits) ∙ ap is_taken none

-- the edits that a shared command offers have a property
abbrev pub Offers : (List Edit → Type 0) → Request → Type 0
Offers Good see = Unit {0}
Offers Good (offer edits guards) = Good edits

-- what the edits that a cell takes keep of it, a run keeps
module _ (P : Cell → Type 0) (Good : List Edit → Type 0)
    (keeps : (d : Cell) (edits : List Edit) (guards : List RecName) → P d → Good edits → form_fault d.head.nall edits guards ≡ None
    → is_applicable edits d ≡ true → P (apply_edits edits d)) where
  kept_by_other : (desk : ℕ) (event : Event) (reply : Reply) (h : History) → P h.cell → IsOther reply → P (left_after desk event reply h).cell
  kept_by_other desk event reply h here other = subst P (sym (other_keeps desk event reply h other)) here

  commit_keeps : (h : History) (desk base : ℕ) (edits : List Edit) (guards : List RecName) → P h.cell → Good edits
      → form_fault h.cell.head.nall edits guards ≡ None
      → P (left_after desk (commit base edits guards) (commit_answer h base edits guards) h).cell
  commit_keeps h desk base edits guards here good no_fault =
      by (newer_answer h.commits base edits guards) (clashes_are_other edits guards (drop base (enumerate_from 1 h.commits))) (state_refusal h.cell edits) refl
    where
      by : (newer : Option Reply) → IfSome newer IsOther → (refusal : Option StateRefusal) → state_refusal h.cell edits ≡ refusal
          → P (left_after desk (commit base edits guards) (option_map_or (λ reply. reply) newer
          (option_map_or Refused refusal (Accepted (length h.commits + 1) (finding_total (apply_edits edits h.cell))))) h).cell
      by (Some reply) other refusal is = kept_by_other desk (commit base edits guards) reply h here other
      by None other (Some refusal) is = here
      by None other None is = keeps h.cell edits guards here good no_fault (taken_when_none h.cell edits is)

  offer_keeps : (h : History) (desk base : ℕ) (edits : List Edit) (guards : List RecName) → P h.cell → Good edits → (fault : Option FormFault)
      → form_fault h.cell.head.nall edits guards ≡ fault
      → P (left_after desk (option_map_or faulty fault (commit base edits guards)) (answer h (option_map_or faulty fault (commit base edits guards))) h).cell
  offer_keeps h desk base edits guards here good (Some fault) is = here
  offer_keeps h desk base edits guards here good None is = commit_keeps h desk base edits guards here good is

  request_keeps : (h : History) (desk : ℕ) (request : Request) → P h.cell → Offers Good request → P (request_step h (desk, request)).1.cell
  request_keeps h desk see here good = here
  request_keeps h desk (offer edits guards) here good = offer_keeps h desk (h.bases desk) edits guards here good (form_fault h.cell.head.nall edits guards) refl

  pub requests_keep : (h : History) (requests : List (ℕ × Request)) → P h.cell → AllByRecursion (λ (r : ℕ × Request). Offers Good r.1) requests
      → P (history_after h requests).cell
  requests_keep h [] here good = here
  requests_keep h (request ∷ requests) here good = requests_keep (request_step h request).1 requests (request_keeps h request.0 request.1 here good.0) good.1

-- any edits
AnyEdits : List Edit → Type 0
AnyEdits edits = Unit {0}

any_offer : (request : Request) → Offers AnyEdits request
unfolding AnyEdits
any_offer see = tt
any_offer (offer edits guards) = tt

any_offers : (requests : List (ℕ × Request)) → AllByRecursion (λ (r : ℕ × Request). Offers AnyEdits r.1) requests
any_offers [] = tt
any_offers (request ∷ requests) = (any_offer request.1, any_offers requests)

pub runs_leave_writable : RunsLeaveWritable
unfolding final_cell
runs_leave_writable c scripts order w =
    requests_keep IsWritable AnyEdits (λ d edits guards here good no_fault taken. edits_keep_writable d edits guards here no_fault taken)
    (opening c) (ordered_requests scripts order) w (any_offers (ordered_requests scripts order))
