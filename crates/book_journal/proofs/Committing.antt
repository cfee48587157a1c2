-- A commit that a book accepts, as an entry of its journal.
use Rattle.std.proofs.Common.{◌≡◌, ◌⊎◌, inl, inr, ℕ, ◌+◌, ◌==◌, nat_lt, if◌then◌else◌, Bool, true, false, cond, List, [], ◌∷◌, ◌++◌, length, Option, None}
use Rattle.std.proofs.Common.{Some, refl, ap, subst, ◌∙◌}
use Rattle.std.specs.List.{cons_option, filter_map}
use Rattle.std.specs.Option.{option_and_then, option_map, option_map_or}
use Rattle.s57_types.specs.declared.name.RecName.{RecName}
use Rattle.cell_spec.specs.Ascending.{ascending}
use Rattle.cell_spec.specs.declared.edit.Edit.{Edit}
use Rattle.cell_spec.specs.Edits.{apply_edits, edit_of}
use Rattle.cell_spec.specs.Names.{name_order}
use Rattle.rule_spec.specs.Findings.{finding_total}
use Rattle.edit_sets.specs.FormFault.{GuardedEdits, edit_limit, first_edit_fault, form_fault, guard_limit}
use Rattle.edit_sets.specs.declared.fault.FormFault.{FormFault}
use Rattle.edit_sets.specs.declared.fault.FormFault.TheVariants.{Empty, TooMany, TooManyGuards}
use Rattle.history_spec.specs.declared.entry.Asked.TheVariants.{Commit}
use Rattle.history_spec.specs.declared.reply.Reply.{Reply}
use Rattle.history_spec.specs.declared.reply.Reply.TheVariants.{Viewed, Formed, Newer, Refused, Accepted}
use Rattle.history_spec.specs.Entries.{replayed}
use Rattle.history_spec.specs.Steps.{AcceptedCommit, History, answer, cell_after, clash_with, commit, contested_names, first_of, newer_answer, state_refusal}
use Rattle.room_laws.proofs.Bases.{newest_cell}
use Rattle.commit_book.specs.Books.{BookState, IsEntered, history_of}
use Rattle.commit_book.proofs.Kept.{after_reply, replayed_entered}
use Rattle.book_journal.specs.Journals.{IsAcceptance}
use Rattle.book_journal.proofs.Lists.{accepting_none}

-- a clash with a newer commit isn't an acceptance
map_newer : (edit : Option Edit) (number : ℕ) (name : RecName) (desk : ℕ) (reply : Reply) → option_map (Newer number name desk) edit ≡ Some reply
    → IsAcceptance reply → ⊥
map_newer None number name desk reply e is = let never : ⊥ = cc in never
map_newer (Some edit) number name desk reply e is =
    let same : reply ≡ Newer number name desk edit = cc in
    let never : ⊥ = subst IsAcceptance same is in never

name_newer : (name : Option RecName) (edit : RecName → Option Edit) (number desk : ℕ) (reply : Reply)
    → option_and_then (λ (n : RecName). option_map (Newer number n desk) (edit n)) name ≡ Some reply → IsAcceptance reply → ⊥
name_newer None edit number desk reply e is = let never : ⊥ = cc in never
name_newer (Some name) edit number desk reply e is = map_newer (edit name) number name desk reply e is

clash_newer : (edits : List Edit) (guards : List RecName) (one : ℕ × AcceptedCommit) (reply : Reply) → clash_with edits guards one ≡ Some reply
    → IsAcceptance reply → ⊥
clash_newer edits guards (number, accepted) reply e is =
    name_newer (first_of (ascending name_order (contested_names edits guards accepted.edits))) (λ n. edit_of n accepted.edits) number accepted.desk reply e is

first_cons : (o : Option Reply) (rest : List Reply) (reply : Reply) → first_of (cons_option o rest) ≡ Some reply
    → (o ≡ Some reply) ⊎ (first_of rest ≡ Some reply)
first_cons None rest reply e = inr e
first_cons (Some one) rest reply e = inl e

first_newer : (edits : List Edit) (guards : List RecName) (commits : List (ℕ × AcceptedCommit)) (reply : Reply)
    → first_of (filter_map (clash_with edits guards) commits) ≡ Some reply → IsAcceptance reply → ⊥
first_newer edits guards [] reply e is = let never : ⊥ = cc in never
first_newer edits guards (one ∷ commits) reply e is =
    elim (first_cons (clash_with edits guards one) (filter_map (clash_with edits guards) commits) reply e) [
      | inl here ↦ clash_newer edits guards one reply here is
      | inr there ↦ first_newer edits guards commits reply there is
    ]

unless_newer : (newer : Option Reply) (rest : Reply) → ((reply : Reply) → newer ≡ Some reply → IsAcceptance reply → ⊥)
    → IsAcceptance (option_map_or (λ (reply : Reply). reply) newer rest) → IsAcceptance rest
unless_newer None rest none is = is
unless_newer (Some reply) rest none is = absurd (none reply refl is)

-- an accepted commit speaks against nothing in the cell
pub none_against : (h : History) (base : ℕ) (edits : List Edit) (guards : List RecName) → IsAcceptance (answer h (commit base edits guards))
    → state_refusal h.cell edits ≡ None
none_against h base edits guards is =
    accepting_none (state_refusal h.cell edits) (length h.commits + 1) (finding_total (apply_edits edits h.cell))
    (unless_newer (newer_answer h.commits base edits guards)
    (option_map_or Refused (state_refusal h.cell edits) (Accepted (length h.commits + 1) (finding_total (apply_edits edits h.cell))))
    (first_newer edits guards _) is)

commits_of : (h : History) (desk base : ℕ) (set : GuardedEdits) (reply : Reply) → IsAcceptance reply
    → (after_reply h desk (Commit base set) reply).commits ≡ h.commits ++ record { desk = desk; edits = set.edits } ∷ []
commits_of h desk base set (Viewed number findings) is = absurd is
commits_of h desk base set (Formed fault) is = absurd is
commits_of h desk base set (Newer number name other edit) is = absurd is
commits_of h desk base set (Refused refusal) is = absurd is
commits_of h desk base set (Accepted number findings) is = refl

-- the commits after an accepted one
pub commits_accepted : (old new : BookState) (desk base : ℕ) (set : GuardedEdits) (reply : Reply) → IsEntered old desk (Commit base set) new reply
    → IsAcceptance reply → (history_of new).commits ≡ (history_of old).commits ++ record { desk = desk; edits = set.edits } ∷ []
commits_accepted old new desk base set reply entered is =
    (λ i. (replayed (entered.opening i) (entered.entries i)).commits)
    ∙ ap (λ (h : History). h.commits) (replayed_entered old.opening old.entries desk (Commit base set) reply entered.reply_is)
    ∙ commits_of (history_of old) desk base set reply is

-- the cell of a book is that after all its commits
pub cell_of_all : (book : BookState) → (history_of book).cell ≡ cell_after (length (history_of book).commits) (history_of book).commits book.opening
cell_of_all book = newest_cell book.opening book.entries

guarded : {A : Type 0} (b : Bool) (x : A) (o : Option A) → cond b (Some x) o ≡ None → (b ≡ false) × (o ≡ None)
guarded true x o e = cc
guarded false x o e = (refl, e)

passed : {A : Type 0} (b : Bool) (x : A) (o : Option A) → b ≡ false → o ≡ None → cond b (Some x) o ≡ None
passed true x o not_so none = cc
passed false x o not_so none = none

-- edits without a fault of form have none without their guards
pub unguarded : (level : ℕ) (edits : List Edit) (guards : List RecName) → form_fault level edits guards ≡ None → form_fault level edits [] ≡ None
unfolding form_fault
unguarded level edits guards none =
    let guarded_edits : List RecName → Option FormFault = λ names.
    if nat_lt guard_limit (length names) then Some (TooManyGuards (length names)) else first_edit_fault level edits in
    let counted : List RecName → Option FormFault = λ names. if nat_lt edit_limit (length edits) then Some (TooMany (length edits)) else guarded_edits names in
    let some = guarded (length edits == 0) Empty (counted guards) none in
    let few = guarded (nat_lt edit_limit (length edits)) (TooMany (length edits)) (guarded_edits guards) some.1 in
    let rest = guarded (nat_lt guard_limit (length guards)) (TooManyGuards (length guards)) (first_edit_fault level edits) few.1 in
    passed (length edits == 0) Empty (counted []) some.0 (passed (nat_lt edit_limit (length edits)) (TooMany (length edits)) (guarded_edits []) few.0 rest.1)
