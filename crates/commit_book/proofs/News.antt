-- The answers of a commit, and the news that they tell.
use Rattle.std.proofs.Common.{◌≡◌, ℕ, ◌+◌, ◌≤◌, List, [], ◌∷◌, ◌++◌, Option, Some, None, length, drop, refl, sym, ap, subst, ◌∙◌}
use Rattle.std.specs.Option.{option_map_or}
use Rattle.std.specs.Prelude.{Err, MatchResult, Ok, OnOk, Result}
use Rattle.std.proofs.lemmas.List.{drop-append-le}
use Rattle.s57_types.specs.declared.cell.Cell.{Cell}
use Rattle.cell_spec.specs.declared.edit.Edit.{Edit}
use Rattle.cell_spec.specs.Edits.{apply_edits}
use Rattle.rule_spec.specs.Findings.{finding_total}
use Rattle.edit_sets.specs.FormFault.{GuardedEdits}
use Rattle.history_spec.specs.declared.entry.Asked.TheVariants.{View, Commit}
use Rattle.history_spec.specs.declared.refusal.StateRefusal.{StateRefusal}
use Rattle.history_spec.specs.declared.reply.Reply.{Reply}
use Rattle.history_spec.specs.declared.reply.Reply.TheVariants.{Viewed, Formed, Newer, Refused, Accepted}
use Rattle.history_spec.specs.Steps.{History, commit_answer, newer_answer, state_refusal}
use Rattle.cell_bench.specs.Benches.{IsPlanRefusal, IsPlanned}
use Rattle.cell_bench.specs.declared.refusal.PlanRefusal.{PlanRefusal}
use Rattle.commit_book.specs.Books.{BookState, IsEntered, IsVerdict, LeavesCommits, accepted_sets, history_of, news_of, sets_told}
use Rattle.commit_book.proofs.Kept.{sets_left, sets_pushed}

answer_by : (h : History) (base : ℕ) (set : GuardedEdits) (refusal : Option StateRefusal)
    → newer_answer h.commits base set.edits set.guards ≡ None → state_refusal h.cell set.edits ≡ refusal
    → commit_answer h base set.edits set.guards ≡ option_map_or Refused refusal (Accepted (length h.commits + 1) (finding_total (apply_edits set.edits h.cell)))
answer_by h base set refusal alone is =
    let accepted = Accepted (length h.commits + 1) (finding_total (apply_edits set.edits h.cell)) in
    ap (λ newer. option_map_or (λ r. r) newer (option_map_or Refused (state_refusal h.cell set.edits) accepted)) alone
    ∙ ap (λ reason. option_map_or Refused reason accepted) is

-- a commit to a book that has no newer one
module _ (book : BookState) (base : ℕ) (set : GuardedEdits) (alone : newer_answer (history_of book).commits base set.edits set.guards ≡ None) where
  -- that nothing speaks against
  pub commit_accepted : (planned : Cell) → IsPlanned (history_of book).cell set.edits planned
      → commit_answer (history_of book) base set.edits set.guards ≡ Accepted (length (history_of book).commits + 1) (finding_total planned)
  commit_accepted planned is = answer_by (history_of book) base set None alone is.none
      ∙ ap (λ c. Accepted (length (history_of book).commits + 1) (finding_total c)) (sym is.cell_is)

  -- that the cell doesn't take
  pub commit_refused : (refusal : StateRefusal) → state_refusal (history_of book).cell set.edits ≡ Some refusal
      → Refused refusal ≡ commit_answer (history_of book) base set.edits set.guards
  commit_refused refusal is = sym (answer_by (history_of book) base set (Some refusal) alone is)

-- what holds of edits that the cell doesn't refuse holds where they are planned
pub where_planned : {P : Type 0} (c : Cell) (edits : List Edit) (plan : Result Cell PlanRefusal) → MatchResult plan (IsPlanned c edits) (IsPlanRefusal c edits)
    → (state_refusal c edits ≡ None → P) → OnOk plan P
where_planned c edits (Ok planned) is holds = holds is.none
where_planned c edits (Err why) is holds = tt

-- the news of a commit: the edit sets behind its base up to its own, where it is accepted
pub commit_news : (old new : BookState) (desk base : ℕ) (set : GuardedEdits) (reply : Reply) → IsEntered old desk (Commit base set) new reply
    → IsVerdict reply → base ≤ length (accepted_sets old.entries)
    → sets_told reply (drop base (accepted_sets old.entries) ++ set ∷ []) ≡ news_of reply base (accepted_sets new.entries)
commit_news old new desk base set (Viewed number findings) told verdict within = absurd verdict
commit_news old new desk base set (Formed fault) told verdict within = absurd verdict
commit_news old new desk base set (Newer number name other edit) told verdict within = refl
commit_news old new desk base set (Refused refusal) told verdict within = refl
commit_news old new desk base set (Accepted number findings) told verdict within =
    sym (ap (λ entries. drop base (accepted_sets entries)) told.entries
    ∙ ap (drop base) (sets_pushed old.entries desk base set number findings)
    ∙ drop-append-le base (accepted_sets old.entries) (set ∷ []) within)

-- the news of a view: the edit sets behind its base, which it leaves as they are
pub view_news : (old new : BookState) (desk base : ℕ) (reply : Reply) → IsEntered old desk View new reply
    → drop base (accepted_sets old.entries) ≡ news_of reply base (accepted_sets new.entries)
view_news old new desk base reply told =
    let left = ap accepted_sets told.entries ∙ sets_left old.entries desk View reply (subst LeavesCommits (sym told.reply_is) tt) in
    ap (drop base) (sym left) ∙ ap (λ r. news_of r base (accepted_sets new.entries)) (sym told.reply_is)
