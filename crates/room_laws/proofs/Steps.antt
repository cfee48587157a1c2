-- What a step leaves of bases and of the head.
use Rattle.std.proofs.Common.{◌≡◌, ◌==◌, ℕ, ◌+◌, Bool, true, false, if◌then◌else◌, List, [], ◌∷◌, length, filter_map, drop, Option, Some, None, refl, sym}
use Rattle.std.proofs.Common.{ap, ◌∙◌, ⊎_elim}
use Rattle.std.specs.List.{cons_option, enumerate_from}
use Rattle.std.specs.Option.{option_map, option_map_or, option_and_then}
use Rattle.std.proofs.lemmas.Bool.{cases_Bool, eqb-true}
use Rattle.cell_spec.specs.declared.edit.Edit.{Edit}
use Rattle.cell_spec.specs.Ascending.{ascending}
use Rattle.cell_spec.specs.Names.{name_order}
use Rattle.cell_spec.specs.declared.edit.Edit.TheVariants.{Add, Set, Del, Head}
use Rattle.cell_spec.specs.Edits.{edit_of, head_by, apply_edits}
use Rattle.s57_types.specs.declared.head.Head.{Head as CellHead}
use Rattle.s57_types.specs.Heads.{head_name}
use Rattle.s57_types.specs.declared.name.RecName.{RecName}
use Rattle.rule_spec.specs.Findings.{finding_total}
use Rattle.history_spec.specs.declared.refusal.StateRefusal.{StateRefusal}
use Rattle.history_spec.specs.declared.reply.Reply.{Reply}
use Rattle.history_spec.specs.declared.reply.Reply.TheVariants.{Viewed, Formed, Newer, Refused, Accepted}
use Rattle.history_spec.specs.Entries.{brief_of, base_told}
use Rattle.history_spec.specs.Steps.{History, Event, AcceptedCommit, view, faulty, commit, answer, left_after, newer_answer, clash_with, first_of}
use Rattle.history_spec.specs.Steps.{contested_names, state_refusal, edits_asked}

-- an edit leaves the head's level of national texts
level_with : (h : CellHead) (edit : Edit) → (head_by h (Some edit)).nall ≡ h.nall
level_with h (Add r) = refl
level_with h (Set r) = refl
level_with h (Del n) = refl
level_with h (Head e) = refl

level_by : (h : CellHead) (edit : Option Edit) → (head_by h edit).nall ≡ h.nall
level_by h None = refl
level_by h (Some edit) = level_with h edit

pub level_left : (desk : ℕ) (event : Event) (reply : Reply) (h : History) → (left_after desk event reply h).cell.head.nall ≡ h.cell.head.nall
unfolding apply_edits
level_left desk event (Viewed number findings) h = refl
level_left desk event (Formed fault) h = refl
level_left desk event (Newer number name other edit) h = refl
level_left desk event (Refused refusal) h = refl
level_left desk event (Accepted number findings) h = level_by h.cell.head (edit_of head_name (edits_asked event))

-- a view tells how many commits were accepted, and an accepted commit has the next number
abbrev pub IsNumbered : List AcceptedCommit → Reply → Type 0
IsNumbered commits (Viewed number findings) = number ≡ length commits
IsNumbered commits (Formed fault) = Unit {0}
IsNumbered commits (Newer number name other edit) = Unit {0}
IsNumbered commits (Refused refusal) = Unit {0}
IsNumbered commits (Accepted number findings) = number ≡ length commits + 1

abbrev IsNumberedIf : List AcceptedCommit → Option Reply → Type 0
IsNumberedIf commits None = Unit {0}
IsNumberedIf commits (Some reply) = IsNumbered commits reply

newer_of : (commits : List AcceptedCommit) (number desk : ℕ) (name : RecName) (edit : Option Edit)
    → IsNumberedIf commits (option_map (Newer number name desk) edit)
newer_of commits number desk name None = tt
newer_of commits number desk name (Some edit) = tt

clash_of : (commits : List AcceptedCommit) (number : ℕ) (accepted : AcceptedCommit) (name : Option RecName)
    → IsNumberedIf commits (option_and_then (λ n. option_map (Newer number n accepted.desk) (edit_of n accepted.edits)) name)
clash_of commits number accepted None = tt
clash_of commits number accepted (Some n) = newer_of commits number accepted.desk n (edit_of n accepted.edits)

first_cons : (commits : List AcceptedCommit) (one : Option Reply) (rest : List Reply) → IsNumberedIf commits one
    → IsNumberedIf commits (first_of rest) → IsNumberedIf commits (first_of (cons_option one rest))
first_cons commits None rest p q = q
first_cons commits (Some reply) rest p q = p

firsts : (commits : List AcceptedCommit) (edits : List Edit) (guards : List RecName) (told : List (ℕ × AcceptedCommit))
    → IsNumberedIf commits (first_of (filter_map (clash_with edits guards) told))
firsts commits edits guards [] = tt
firsts commits edits guards (t ∷ ts) = first_cons commits (clash_with edits guards t) (filter_map (clash_with edits guards) ts)
    (clash_of commits t.0 t.1 (first_of (ascending name_order (contested_names edits guards t.1.edits)))) (firsts commits edits guards ts)

by_refusal : (h : History) (edits : List Edit) (refusal : Option StateRefusal)
    → IsNumbered h.commits (option_map_or Refused refusal (Accepted (length h.commits + 1) (finding_total (apply_edits edits h.cell))))
by_refusal h edits None = refl
by_refusal h edits (Some refusal) = tt

by_newer : (commits : List AcceptedCommit) (newer : Option Reply) (other : Reply) → IsNumberedIf commits newer → IsNumbered commits other
    → IsNumbered commits (option_map_or (λ reply. reply) newer other)
by_newer commits None other p q = q
by_newer commits (Some reply) other p q = p

pub answer_numbered : (h : History) (event : Event) → IsNumbered h.commits (answer h event)
answer_numbered h view = refl
answer_numbered h (faulty fault) = tt
answer_numbered h (commit base edits guards) = by_newer h.commits (newer_answer h.commits base edits guards) _
    (firsts h.commits edits guards (drop base (enumerate_from 1 h.commits))) (by_refusal h edits (state_refusal h.cell edits))

same_base : (i desk : ℕ) (bases : ℕ → ℕ) → bases i ≡ (if i == desk then bases desk else bases i)
same_base i desk bases = ⊎_elim (λ (e : (i == desk) ≡ true). ap bases (eqb-true i desk e) ∙ ap (λ (b : Bool). if b then bases desk else bases i) (sym e))
    (λ (e : (i == desk) ≡ false). ap (λ (b : Bool). if b then bases desk else bases i) (sym e)) (cases_Bool (i == desk))

pub bases_left : (desk : ℕ) (event : Event) (reply : Reply) (h : History) (i : ℕ) → IsNumbered h.commits reply
    → (left_after desk event reply h).bases i ≡ (if i == desk then base_told (brief_of reply) (h.bases desk) else h.bases i)
bases_left desk event (Viewed number findings) h i is = refl
bases_left desk event (Formed fault) h i is = same_base i desk h.bases
bases_left desk event (Newer number name other edit) h i is = same_base i desk h.bases
bases_left desk event (Refused refusal) h i is = same_base i desk h.bases
bases_left desk event (Accepted number findings) h i is = ap (λ n. if i == desk then n else h.bases i) (sym is)

-- an accepted commit tells the findings of the cell that it leaves
abbrev pub IsCommit : Event → Type 0
IsCommit view = ⊥
IsCommit (faulty fault) = ⊥
IsCommit (commit base edits guards) = Unit {0}

abbrev pub IsJudged : History → Event → Reply → Type 0
IsJudged h event (Viewed number findings) = Unit {0}
IsJudged h event (Formed fault) = Unit {0}
IsJudged h event (Newer number name other edit) = Unit {0}
IsJudged h event (Refused refusal) = Unit {0}
IsJudged h event (Accepted number findings) = IsCommit event × (findings ≡ finding_total (apply_edits (edits_asked event) h.cell))

abbrev IsNewer : Option Reply → Type 0
IsNewer None = Unit {0}
IsNewer (Some (Viewed number findings)) = ⊥
IsNewer (Some (Formed fault)) = ⊥
IsNewer (Some (Newer number name other edit)) = Unit {0}
IsNewer (Some (Refused refusal)) = ⊥
IsNewer (Some (Accepted number findings)) = ⊥

newer_named : (number desk : ℕ) (name : RecName) (edit : Option Edit) → IsNewer (option_map (Newer number name desk) edit)
newer_named number desk name None = tt
newer_named number desk name (Some edit) = tt

newer_clash : (number : ℕ) (accepted : AcceptedCommit) (name : Option RecName)
    → IsNewer (option_and_then (λ n. option_map (Newer number n accepted.desk) (edit_of n accepted.edits)) name)
newer_clash number accepted None = tt
newer_clash number accepted (Some n) = newer_named number accepted.desk n (edit_of n accepted.edits)

newer_first : (one : Option Reply) (rest : List Reply) → IsNewer one → IsNewer (first_of rest) → IsNewer (first_of (cons_option one rest))
newer_first None rest p q = q
newer_first (Some r) rest p q = p

newer_all : (edits : List Edit) (guards : List RecName) (told : List (ℕ × AcceptedCommit)) → IsNewer (first_of (filter_map (clash_with edits guards) told))
newer_all edits guards [] = tt
newer_all edits guards (t ∷ ts) = newer_first (clash_with edits guards t) (filter_map (clash_with edits guards) ts)
    (newer_clash t.0 t.1 (first_of (ascending name_order (contested_names edits guards t.1.edits)))) (newer_all edits guards ts)

judged_refusal : (h : History) (base : ℕ) (edits : List Edit) (guards : List RecName) (refusal : Option StateRefusal)
    → IsJudged h (commit base edits guards) (option_map_or Refused refusal (Accepted (length h.commits + 1) (finding_total (apply_edits edits h.cell))))
judged_refusal h base edits guards None = (tt, refl)
judged_refusal h base edits guards (Some refusal) = tt

judged_newer : (h : History) (event : Event) (newer : Option Reply) (other : Reply) → IsNewer newer → IsJudged h event other
    → IsJudged h event (option_map_or (λ reply. reply) newer other)
judged_newer h event None other p q = q
judged_newer h event (Some (Viewed number findings)) other p q = absurd p
judged_newer h event (Some (Formed fault)) other p q = absurd p
judged_newer h event (Some (Newer number name desk edit)) other p q = tt
judged_newer h event (Some (Refused refusal)) other p q = absurd p
judged_newer h event (Some (Accepted number findings)) other p q = absurd p

pub answer_judged : (h : History) (event : Event) → IsJudged h event (answer h event)
answer_judged h view = tt
answer_judged h (faulty fault) = tt
answer_judged h (commit base edits guards) = judged_newer h (commit base edits guards) (newer_answer h.commits base edits guards) _
    (newer_all edits guards (drop base (enumerate_from 1 h.commits))) (judged_refusal h base edits guards (state_refusal h.cell edits))
