-- Each answer has its cause.
use Rattle.std.proofs.Common.{◌≡◌, ◌==◌, ℕ, zero, suc, ◌+◌, Bool, true, false, if◌then◌else◌, List, [], ◌∷◌, length, take, Option, None, Some, refl, sym, ap}
use Rattle.std.proofs.Common.{subst, ⊎_elim, arith}
use Rattle.std.specs.Prelude.{slice_get}
use Rattle.std.specs.Option.{option_map_or}
use Rattle.std.proofs.lemmas.Bool.{cases_Bool, eqb-true}
use Rattle.s57_types.specs.declared.name.RecName.{RecName}
use Rattle.cell_spec.specs.Edits.{apply_edits}
use Rattle.cell_spec.specs.declared.edit.Edit.{Edit}
use Rattle.rule_spec.specs.Findings.{finding_total}
use Rattle.edit_sets.specs.FormFault.{IsFormed, form_fault}
use Rattle.edit_sets.proofs.Formed.{formed as formed_without}
use Rattle.edit_sets.specs.declared.fault.FormFault.{FormFault}
use Rattle.history_spec.specs.Sessions.{Request, see, offer, history_after, request_step}
use Rattle.history_spec.specs.Steps.{History, commit, faulty, left_after, newer_answer, state_refusal, step, with_base}
use Rattle.history_spec.specs.declared.refusal.StateRefusal.{StateRefusal}
use Rattle.history_spec.specs.declared.reply.Reply.{Reply}
use Rattle.history_spec.specs.declared.reply.Reply.TheVariants.{Refused, Accepted}
use Rattle.room_laws.proofs.Interleaved.{same_number}
use Rattle.run_laws.specs.Causes.{IsAnswered, IsBaseMoved, TellsItsCause}
use Rattle.run_laws.specs.Contests.{AreUncontested}
use Rattle.run_laws.proofs.Faults.{fault_told}
use Rattle.run_laws.proofs.Newer.{NewerTold, newer_told}
use Rattle.run_laws.proofs.Refusals.{RefusalTold, refusal_told}

base_moved : (desk number : ℕ) (bases : ℕ → ℕ) → IsBaseMoved desk number bases (with_base desk number bases)
base_moved desk number bases = record {
  own = ap (λ (b : Bool). if b then number else bases desk) (same_number desk);
  others = λ other apart. ⊎_elim (λ (t : (other == desk) ≡ true). absurd (apart (eqb-true other desk t)))
      (λ (t : (other == desk) ≡ false). ap (λ (b : Bool). if b then number else bases other) t) (cases_Bool (other == desk));
}

module _ (h : History) (desk : ℕ) (edits : List Edit) (guards : List RecName) where
  abbrev base : ℕ
  base = h.bases desk

  abbrev accepted : Reply
  accepted = Accepted (length h.commits + 1) (finding_total (apply_edits edits h.cell))

  -- an answer to a commit with its cause
  abbrev Tells : Reply → Type 0
  Tells reply = TellsItsCause h desk (offer edits guards) reply (left_after desk (commit base edits guards) reply h)

  by_refusal : IsFormed h.cell.head.nall edits guards → AreUncontested h.commits base edits guards
      → (o : Option StateRefusal) → state_refusal h.cell edits ≡ o → RefusalTold h.cell edits o → Tells (option_map_or Refused o accepted)
  by_refusal formed alone None is told = record {
    formed = formed;
    uncontested = alone;
    taken = told;
    number_is = refl;
    cell_is = refl;
    findings_are = refl;
    commits_are = refl;
    base = base_moved desk (length h.commits + 1) h.bases;
  }
  by_refusal formed alone (Some why) is told = record { formed = formed; uncontested = alone; why_is = is; shows = told; stays = refl }

  by_newer : IsFormed h.cell.head.nall edits guards → (o : Option Reply) → NewerTold h.commits base edits guards o
      → Tells (option_map_or (λ reply. reply) o (option_map_or Refused (state_refusal h.cell edits) accepted))
  by_newer formed None alone = by_refusal formed alone (state_refusal h.cell edits) refl (refusal_told h.cell edits)
  by_newer formed (Some reply) shown = subst Tells (sym shown.is) (record { formed = formed; shows = shown.shows; stays = refl })

  by_fault : (o : Option FormFault) → form_fault h.cell.head.nall edits guards ≡ o
      → TellsItsCause h desk (offer edits guards) (step h desk (option_map_or faulty o (commit base edits guards))).0
      (step h desk (option_map_or faulty o (commit base edits guards))).1
  by_fault None is =
      by_newer (formed_without h.cell.head.nall edits guards is) (newer_answer h.commits base edits guards) (newer_told h.commits base edits guards)
  by_fault (Some fault) is = record { fault_is = is; shows = fault_told h.cell.head.nall edits guards fault is; stays = refl }

pub step_tells : (h : History) (desk : ℕ) (request : Request)
    → TellsItsCause h desk request (request_step h (desk, request)).0 (request_step h (desk, request)).1
step_tells h desk see = record {
  number_is = refl;
  findings_are = refl;
  cell_stays = refl;
  commits_stay = refl;
  base = base_moved desk (length h.commits) h.bases;
}
step_tells h desk (offer edits guards) = by_fault h desk edits guards (form_fault h.cell.head.nall edits guards) refl

pub each_answered : (h : History) (requests : List (ℕ × Request)) (place desk : ℕ) (request : Request) → slice_get requests place ≡ Some (desk, request)
    → IsAnswered h requests place desk request
each_answered h [] place desk request there = absurd (cc there)
each_answered h (r ∷ requests) zero desk request there =
    let own : r ≡ (desk, request) = cc in
    subst (λ (q : ℕ × Request). IsAnswered h (q ∷ requests) 0 desk request) (sym own)
    (record { reply = (request_step h (desk, request)).0; told = refl; cause = step_tells h desk request })
each_answered h (r ∷ requests) (suc place) desk request there =
    let later = each_answered (request_step h r).1 requests place desk request there in record {
      reply = later.reply;
      told = later.told;
      cause = subst (λ k. TellsItsCause (history_after h (take (suc place) (r ∷ requests))) desk request later.reply
          (history_after h (take k (r ∷ requests)))) (let e : suc (place + 1) ≡ suc place + 1 = omega arith in e) later.cause;
    }
