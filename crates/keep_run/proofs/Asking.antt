-- What a crash leaves while a commit is kept.
use Rattle.std.proofs.Common.{◌≡◌, inl, inr, ℕ, ◌+◌, List, [], ◌∷◌, ◌++◌, length, Option, None, sym, ap, ◌∙◌, subst, append_assoc, arith}
use Rattle.std.specs.Prelude.{IfSome, filter_map}
use Rattle.std.specs.List.{enumerate_from}
use Rattle.std.specs.Option.{option_map_or}
use Rattle.std.proofs.lemmas.List.{append-nil, drop_all}
use Rattle.std.proofs.lemmas.List.FromFn.{length-enumerate_from}
use Rattle.s57_types.specs.declared.cell.Cell.{Cell}
use Rattle.s57_types.specs.declared.name.RecName.{RecName}
use Rattle.cell_spec.specs.declared.edit.Edit.{Edit}
use Rattle.cell_spec.specs.Edits.{apply_edits}
use Rattle.rule_spec.specs.Findings.{finding_total}
use Rattle.edit_sets.specs.FormFault.{GuardedEdits}
use Rattle.history_spec.specs.declared.refusal.StateRefusal.{StateRefusal}
use Rattle.history_spec.specs.declared.reply.Reply.{Reply}
use Rattle.history_spec.specs.declared.reply.Reply.TheVariants.{Accepted, Refused}
use Rattle.history_spec.specs.Steps.{AcceptedCommit, Event, History, answer, clash_with, commit, first_of, left_after, newer_answer, state_refusal}
use Rattle.commit_book.specs.Books.{BookState, history_of}
use Rattle.crash_disk.specs.Disk.{LeavesOnly}
use Rattle.crash_disk.proofs.Moments.{weakened}
use Rattle.book_journal.specs.Journals.{AreAcceptedBehind, IsAcceptedBehind, IsJournalOf}
use Rattle.book_journal.specs.Keeping.{HasOrHasNot}
use Rattle.book_journal.proofs.Committing.{cell_of_all}
use Rattle.book_journal.proofs.Lists.{accepted_taken}
use Rattle.book_journal.proofs.Told.{if_some}
use Rattle.keep_run.specs.Sessions.{IsAround, commits_left}

last_accepted : (c : Cell) (earlier commits : List AcceptedCommit) (one : AcceptedCommit) → AreAcceptedBehind c earlier (commits ++ one ∷ [])
    → IsAcceptedBehind c (earlier ++ commits) one
last_accepted c earlier [] one are = subst (λ (l : List AcceptedCommit). IsAcceptedBehind c l one) (sym (append-nil earlier)) are.0
last_accepted c earlier (first ∷ commits) one are =
    subst (λ (l : List AcceptedCommit). IsAcceptedBehind c l one) (append_assoc earlier (first ∷ []) commits)
    (last_accepted c (earlier ++ first ∷ []) commits one are.1)

not_none : (commits : List AcceptedCommit) (one : AcceptedCommit) → commits ++ one ∷ [] ≡ [] → ⊥
not_none [] one e = cc
not_none (first ∷ commits) one e = cc

-- a journal with one commit more has one that is accepted
one_accepted : (c : Cell) (commits : List AcceptedCommit) (one : AcceptedCommit) (file : List ℕ) → IsJournalOf c file (commits ++ one ∷ [])
    → IsAcceptedBehind c commits one
one_accepted c commits one file (inl none) = absurd (not_none commits one none.1)
one_accepted c commits one file (inr list) = last_accepted c [] commits one list.read.accepted

none_newer : (commits : List AcceptedCommit) (edits : List Edit) (guards : List RecName) → newer_answer commits (length commits) edits guards ≡ None
none_newer commits edits guards =
    ap (λ (l : List (ℕ × AcceptedCommit)). first_of (filter_map (clash_with edits guards) l))
    (drop_all (length commits) (enumerate_from 1 commits) (omega (arith, length-enumerate_from 1 commits)))

module _ (book : BookState) (set : GuardedEdits) where
  abbrev h : History
  h = history_of book

  abbrev one : AcceptedCommit
  one = record { desk = 1; edits = set.edits }

  abbrev event : Event
  event = commit (length h.commits) set.edits set.guards

  abbrev verdict_of : Option StateRefusal → Reply
  verdict_of refusal = option_map_or Refused refusal (Accepted (length h.commits + 1) (finding_total (apply_edits set.edits h.cell)))

  commits_more : state_refusal h.cell set.edits ≡ None → commits_left book event ≡ h.commits ++ one ∷ []
  commits_more none =
      let answered : answer h event ≡ verdict_of None =
      ap (λ (o : Option Reply). option_map_or (λ (reply : Reply). reply) o (verdict_of (state_refusal h.cell set.edits)))
      (none_newer h.commits set.edits set.guards)
      ∙ ap verdict_of none in
      ap (λ (reply : Reply). (left_after 1 event reply h).commits) answered

  around_of : (file : List ℕ) → HasOrHasNot book.opening h.commits one file → IsAround book event file
  around_of file (inl journal) = inl journal
  around_of file (inr journal) =
      let taken = accepted_taken book.opening h.commits one (one_accepted book.opening h.commits one file journal) in
      let none = subst (λ (d : Cell). state_refusal d set.edits ≡ None) (sym (cell_of_all book)) taken.none in
      inr (subst (IsJournalOf book.opening file) (sym (commits_more none)) journal)

  module _ {D : Type 0} (moment : D → ℕ) (left_since : D → ℕ → List ℕ → Type 0) (content : Option (List ℕ)) (old new : D) where
    pub while_kept : IfSome content (λ _. LeavesOnly moment left_since old new (HasOrHasNot book.opening h.commits one))
        → IfSome content (λ _. LeavesOnly moment left_since old new (IsAround book event))
    while_kept leaves = if_some _ _ content leaves (λ file told is.
        weakened moment left_since old new (HasOrHasNot book.opening h.commits one) (IsAround book event) is around_of)

    -- the same where the set that was committed is this one
    pub while_kept_as : (given : GuardedEdits) → given ≡ set
        → IfSome content (λ _. LeavesOnly moment left_since old new (HasOrHasNot book.opening h.commits (record { desk = 1; edits = given.edits })))
        → IfSome content (λ _. LeavesOnly moment left_since old new (IsAround book event))
    while_kept_as given same leaves = while_kept (subst (λ (s : GuardedEdits). IfSome content (λ _. LeavesOnly moment left_since old new
        (HasOrHasNot book.opening h.commits (record { desk = 1; edits = s.edits })))) same leaves)
