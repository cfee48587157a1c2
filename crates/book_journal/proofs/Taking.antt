-- A text that a book is asked to take.
use Rattle.std.proofs.Common.{◌≡◌, ℕ, ◌+◌, List, [], ◌∷◌, length, Bool, true, false, IfSome, MatchBool, Option, None, Some, sym, ap, subst, ◌∙◌, length-append}
use Rattle.std.specs.Option.{option_map_or}
use Rattle.s57_types.specs.declared.cell.Cell.{Cell}
use Rattle.s57_types.specs.declared.name.RecName.{RecName}
use Rattle.cell_spec.specs.declared.edit.Edit.{Edit}
use Rattle.cell_spec.specs.Edits.{apply_edits}
use Rattle.cell_spec.specs.declared.finding.Row.{Row}
use Rattle.edit_sets.specs.FormFault.{GuardedEdits}
use Rattle.rule_spec.specs.Affected.{RowsAreExact}
use Rattle.cell_bench.specs.Benches.{IsPlanned}
use Rattle.rule_spec.specs.Findings.{finding_total}
use Rattle.history_spec.specs.declared.entry.Asked.TheVariants.{Commit}
use Rattle.history_spec.specs.declared.reply.Reply.{Reply}
use Rattle.history_spec.specs.declared.reply.Reply.TheVariants.{Viewed, Formed, Newer, Refused, Accepted}
use Rattle.history_spec.specs.Entries.{brief_of}
use Rattle.history_spec.specs.EntriesReport.{cell_told}
use Rattle.history_spec.specs.Steps.{History, answer, commit, state_refusal}
use Rattle.room_laws.proofs.Bases.{newest_cell}
use Rattle.commit_book.specs.Books.{BookState, IsEntered, LeavesCommits, entry_of, history_of}
use Rattle.book_journal.specs.Journals.{IsAcceptance}
use Rattle.book_journal.specs.Replaying.{AreTaken, IsBookTaken}
use Rattle.book_journal.specs.Texts.{IsSetRead}
use Rattle.book_journal.proofs.Committing.{commits_accepted, none_against}
use Rattle.book_journal.proofs.Lists.{accepting, none_newer}

-- behind all commits, edits that the cell takes are accepted
accepted_behind_all : (h : History) (edits : List Edit) → state_refusal h.cell edits ≡ None → IsAcceptance (answer h (commit (length h.commits) edits []))
accepted_behind_all h edits none =
    let verdict = option_map_or Refused (state_refusal h.cell edits) (Accepted (length h.commits + 1) (finding_total (apply_edits edits h.cell))) in
    let is : answer h (commit (length h.commits) edits []) ≡ verdict =
    ap (λ (o : Option Reply). option_map_or (λ (reply : Reply). reply) o verdict) (none_newer h.commits edits) in
    subst IsAcceptance (sym is) (accepting (state_refusal h.cell edits) (length h.commits + 1) (finding_total (apply_edits edits h.cell)) none)

not_both : (reply : Reply) → IsAcceptance reply → LeavesCommits reply → ⊥
not_both (Viewed number findings) is leaves = is
not_both (Formed fault) is leaves = is
not_both (Newer number name desk edit) is leaves = is
not_both (Refused refusal) is leaves = is
not_both (Accepted number findings) is leaves = leaves

module _ (old new : BookState) (desk base : ℕ) (text : List ℕ) (set : GuardedEdits) (reply : Reply)
    (read : IsSetRead (history_of old).cell.head.nall text (Some set)) (base_is : base ≡ length (history_of old).commits)
    (entered : IsEntered old desk (Commit base set) new reply) where
  taken : IsAcceptance reply → AreTaken (history_of old).cell text set.edits
  taken is = record {
    edits_are = read.spelled.edits;
    none = none_against (history_of old) base set.edits set.guards (subst IsAcceptance entered.reply_is is);
  }

  refused : (edits : List Edit) → AreTaken (history_of old).cell text edits → IsAcceptance reply
  refused edits are =
      let same : set.edits ≡ edits = read.found edits are.edits_are in
      let none = subst (λ (l : List Edit). state_refusal (history_of old).cell l ≡ None) (sym same) are.none in
      let all = accepted_behind_all (history_of old) set.edits none in
      let based = subst (λ (n : ℕ). IsAcceptance (answer (history_of old) (commit n set.edits []))) (sym base_is) all in
      let guarded = subst (λ (names : List RecName). IsAcceptance (answer (history_of old) (commit base set.edits names))) (sym read.spelled.guards) based in
      subst IsAcceptance (sym entered.reply_is) guarded

  -- what the answer tells of it
  pub book_taken : (accepted : Bool) → MatchBool accepted (IsAcceptance reply) (LeavesCommits reply) → IsBookTaken old desk text new accepted
  book_taken true is = record {
    edits = set.edits;
    taken = taken is;
    opening = entered.opening;
    commits = commits_accepted old new desk base set reply entered is;
    entries = ap length entered.entries ∙ length-append old.entries (entry_of desk (Commit base set) (brief_of reply) ∷ []);
  }
  book_taken false leaves = λ edits are. not_both reply (refused edits are) leaves

-- rows that are right on the newest cell are right on the cell of its number
pub rows_right : (book : BookState) (edits : List Edit) (rows : List Row) (base : ℕ) (cell : Cell) → base ≡ length (history_of book).commits
    → cell ≡ (history_of book).cell → RowsAreExact edits cell rows → RowsAreExact edits (cell_told book.opening book.entries base) rows
rows_right book edits rows base cell base_is cell_is right =
    subst (λ (n : ℕ). RowsAreExact edits (cell_told book.opening book.entries n) rows) (sym base_is)
    (subst (λ (d : Cell). RowsAreExact edits d rows) (cell_is ∙ newest_cell book.opening book.entries) right)

-- and what was built ahead on the newest cell is right on it, too
pub ahead_right : (book : BookState) (edits : List Edit) (ahead : Option Cell) (base : ℕ) (cell : Cell) → base ≡ length (history_of book).commits
    → cell ≡ (history_of book).cell → IfSome ahead (IsPlanned cell edits) → IfSome ahead (IsPlanned (cell_told book.opening book.entries base) edits)
ahead_right book edits ahead base cell base_is cell_is right =
    subst (λ (n : ℕ). IfSome ahead (IsPlanned (cell_told book.opening book.entries n) edits)) (sym base_is)
    (subst (λ (d : Cell). IfSome ahead (IsPlanned d edits)) (cell_is ∙ newest_cell book.opening book.entries) right)
