-- Edits as the first commit of a cell's history: what the log's answer tells of it, and what refuses it.
use Rattle.std.proofs.Common.{◌≡◌, ℕ, Bool, true, false, List, [], ◌∷◌, length, Option, Some, None, Result, Ok, Err, refl, sym, ap, ◌∙◌, subst}
use Rattle.std.proofs.Common.{if◌then◌else◌}
use Rattle.std.specs.Prelude.{IfSome, filter_map, is_some, nat_lt, not}
use Rattle.std.specs.List.{cons_option}
use Rattle.std.specs.Option.{option_map_or}
use Rattle.std.proofs.lemmas.Bool.{and_parts}
use Rattle.cell_spec.specs.Edits.{apply_edits, find_their_records, has_its_record, head_after, leave_a_long_head}
use Rattle.cell_spec.specs.Lookup.{all_records, listed_record, name_of}
use Rattle.cell_spec.specs.Writable.{record_limit}
use Rattle.cell_spec.specs.declared.edit.Edit.{Edit}
use Rattle.cell_spec.specs.declared.edit.Edit.TheVariants.{Add, Set, Del, Head}
use Rattle.cell_spec.specs.declared.finding.Row.{Row}
use Rattle.cell_bench.specs.Benches.{IsPlanned}
use Rattle.commit_book.specs.Books.{BookState, IsEntered, book_state, history_of}
use Rattle.edit_sets.specs.FormFault.{GuardedEdits}
use Rattle.history_spec.specs.Entries.{replayed}
use Rattle.history_spec.specs.EntriesReport.{cell_told}
use Rattle.history_spec.specs.Steps.{answer, commit, edit_refusal, finding_limit, first_of, left_after, opening, size_refusal, state_refusal}
use Rattle.history_spec.specs.declared.entry.Asked.TheVariants as asked
use Rattle.history_spec.specs.declared.refusal.StateRefusal.{StateRefusal}
use Rattle.history_spec.specs.declared.refusal.StateRefusal.TheVariants.{AddExists, SetMissing, DelMissing, CellFull, FindingsFull, HeadTooLong}
use Rattle.history_spec.specs.declared.reply.Reply.{Reply}
use Rattle.history_spec.specs.declared.reply.Reply.TheVariants as reply
use Rattle.rule_spec.specs.Affected.{RowsAreExact}
use Rattle.rule_spec.specs.Findings.{finding_total}
use Rattle.s57_types.specs.RecordFields.{identification_length}
use Rattle.s57_types.specs.declared.cell.Cell.{Cell}
use Rattle.enc_top.specs.Commits.{IsTooLarge, commit_refusal, committed, left_unless, refusal_told}
use Rattle.report_text.specs.declared.status.Status.{Status}
use Rattle.report_text.specs.declared.status.Status.TheVariants.{Refused}

-- ---- edits that find their records
free : (there : Bool) (why : StateRefusal) → not there ≡ true → (if there then Some why else None) ≡ None
free true why e = cc
free false why e = refl

there : (is : Bool) (why : StateRefusal) → is ≡ true → (if is then None else Some why) ≡ None
there true why e = refl
there false why e = cc

taken_edit : (c : Cell) (edit : Edit) → has_its_record c edit ≡ true → edit_refusal c edit ≡ None
taken_edit c (Add r) = free (is_some (listed_record c (name_of r))) (AddExists (name_of r))
taken_edit c (Set r) = there (is_some (listed_record c (name_of r))) (SetMissing (name_of r))
taken_edit c (Del n) = there (is_some (listed_record c n)) (DelMissing n)
taken_edit c (Head e) = λ found. refl

none_first : (c : Cell) (edits : List Edit) → find_their_records edits c ≡ true → first_of (filter_map (edit_refusal c) edits) ≡ None
none_first c [] found = refl
none_first c (edit ∷ edits) found =
    let parts = and_parts (has_its_record c edit) (find_their_records edits c) found in
    ap (λ why. first_of (cons_option why (filter_map (edit_refusal c) edits))) (taken_edit c edit parts.0) ∙ none_first c edits parts.1

abbrev IsLargeOrNone : Option StateRefusal → Type 0
IsLargeOrNone None = Unit {0}
IsLargeOrNone (Some why) = IsTooLarge why

large_by : (records bytes : ℕ) (full long many : Bool) → IsLargeOrNone (if full then Some (CellFull records) else
    (if long then Some (HeadTooLong bytes) else (if many then Some FindingsFull else None)))
large_by records bytes true long many = tt
large_by records bytes false true many = tt
large_by records bytes false false true = tt
large_by records bytes false false false = tt

large_size : (c : Cell) (edits : List Edit) → IsLargeOrNone (size_refusal c edits)
large_size c edits =
    let records = length (all_records (apply_edits edits c)) in
    large_by records (identification_length (head_after edits c.head)) (nat_lt record_limit records) (leave_a_long_head edits c)
    (nat_lt finding_limit (finding_total (apply_edits edits c)))

-- they are refused only where the edited cell would be too large
large_state : (c : Cell) (edits : List Edit) → find_their_records edits c ≡ true → IsLargeOrNone (state_refusal c edits)
large_state c edits found =
    subst (λ first. IsLargeOrNone (option_map_or Some first (size_refusal c edits))) (sym (none_first c edits found)) (large_size c edits)

-- ---- a first commit
-- an answer to it
abbrev IsFirstVerdict : Reply → Type 0
IsFirstVerdict (reply.Viewed number findings) = ⊥
IsFirstVerdict (reply.Formed fault) = ⊥
IsFirstVerdict (reply.Newer number name desk edit) = ⊥
IsFirstVerdict (reply.Refused why) = Unit {0}
IsFirstVerdict (reply.Accepted number findings) = Unit {0}

ok_left : (d e : Cell) → ◌≡◌ {A = Result Cell Status} (Ok d) (Ok e) → d ≡ e
ok_left d e same = cc

pub no_status : (d : Cell) (status : Status) → ◌≡◌ {A = Result Cell Status} (Ok d) (Err status) → ⊥
no_status d status same = cc

module _ (c : Cell) (new : BookState) (desk : ℕ) (set : GuardedEdits) (none : set.guards ≡ []) where
  abbrev IsFirst : Reply → Type 0
  IsFirst answered = IsEntered (book_state c []) desk (asked.Commit 0 set) new answered

  is_answer : (answered : Reply) → IsFirst answered → answered ≡ answer (opening c) (commit 0 set.edits [])
  is_answer answered entered = entered.reply_is ∙ ap (λ guards. answer (opening c) (commit 0 set.edits guards)) none

  verdict : (answered : Reply) → IsFirst answered → IsFirstVerdict answered
  verdict answered entered = subst IsFirstVerdict (sym (is_answer answered entered)) (by (state_refusal c set.edits))
    where
      by : (refusal : Option StateRefusal)
          → IsFirstVerdict (option_map_or reply.Refused refusal (reply.Accepted 1 (finding_total (apply_edits set.edits c))))
      by None = tt
      by (Some why) = tt

  told : (answered : Reply) → IsFirst answered → commit_refusal c set.edits ≡ refusal_told answered
  told answered entered = ap refusal_told (sym (is_answer answered entered))

  refused : (why : StateRefusal) → IsFirst (reply.Refused why) → committed c set.edits ≡ Err (Refused why)
  refused why entered = ap (λ refusal. left_unless refusal (apply_edits set.edits c)) (told (reply.Refused why) entered)

  -- the state after its one entry
  left : (number findings : ℕ) → IsFirst (reply.Accepted number findings) → (history_of new).cell ≡ apply_edits set.edits c
  left number findings entered =
      (λ i. (replayed (entered.opening i) (entered.entries i)).cell)
      ∙ ap (λ (answered : Reply). (left_after desk (commit 0 set.edits set.guards) answered (opening c)).cell) (sym entered.reply_is)

  accepted : (number findings : ℕ) → IsFirst (reply.Accepted number findings) → committed c set.edits ≡ Ok (history_of new).cell
  accepted number findings entered =
      ap (λ refusal. left_unless refusal (apply_edits set.edits c)) (told (reply.Accepted number findings) entered)
      ∙ ap (λ (d : Cell). Ok d) (sym (left number findings entered))

  settled : (answered : Reply) → IsFirst answered → committed c set.edits ≡ left_unless (refusal_told answered) (history_of new).cell
  settled (reply.Viewed number findings) entered = absurd (verdict (reply.Viewed number findings) entered)
  settled (reply.Formed fault) entered = absurd (verdict (reply.Formed fault) entered)
  settled (reply.Newer number name other edit) entered = absurd (verdict (reply.Newer number name other edit) entered)
  settled (reply.Refused why) entered = refused why entered
  settled (reply.Accepted number findings) entered = accepted number findings entered

  -- the refusal that it tells is the cell's
  told_state : (answered : Reply) → IsFirst answered → state_refusal c set.edits ≡ refusal_told answered
  told_state answered entered = sym (by (state_refusal c set.edits)) ∙ told answered entered
    where
      by : (refusal : Option StateRefusal)
          → refusal_told (option_map_or reply.Refused refusal (reply.Accepted 1 (finding_total (apply_edits set.edits c)))) ≡ refusal
      by None = refl
      by (Some why) = refl

  large_told : (answered : Reply) (why : StateRefusal) → IsFirst answered → find_their_records set.edits c ≡ true → refusal_told answered ≡ Some why
      → IsTooLarge why
  large_told answered why entered found is = subst IsLargeOrNone (told_state answered entered ∙ is) (large_state c set.edits found)

-- the same for the log of a bench and what was prepared on it
module _ (c : Cell) (old : BookState) (desk base : ℕ) (taken set : GuardedEdits) (state : old ≡ book_state c [])
    (first : base ≡ 0) (same : taken ≡ set) (none : set.guards ≡ []) where
  pub rows_right : (rows : List Row) → RowsAreExact set.edits c rows → RowsAreExact taken.edits (cell_told old.opening old.entries base) rows
  rows_right rows right =
      subst (λ (book : BookState). RowsAreExact taken.edits (cell_told book.opening book.entries base) rows) (sym state)
      (subst (λ (n : ℕ). RowsAreExact taken.edits (cell_told c [] n) rows) (sym first)
      (subst (λ (edits : GuardedEdits). RowsAreExact edits.edits c rows) (sym same) right))

  pub ahead_right : (ahead : Option Cell) → IfSome ahead (IsPlanned c taken.edits)
      → IfSome ahead (IsPlanned (cell_told old.opening old.entries base) taken.edits)
  ahead_right ahead planned =
      subst (λ (book : BookState). IfSome ahead (IsPlanned (cell_told book.opening book.entries base) taken.edits)) (sym state)
      (subst (λ (n : ℕ). IfSome ahead (IsPlanned (cell_told c [] n) taken.edits)) (sym first) planned)

  module _ (new : BookState) (answered : Reply) (entered : IsEntered old desk (asked.Commit base taken) new answered) where
    as_first : IsEntered (book_state c []) desk (asked.Commit 0 set) new answered
    as_first = subst (λ (book : BookState). IsEntered book desk (asked.Commit 0 set) new answered) state
        (subst (λ (n : ℕ). IsEntered old desk (asked.Commit n set) new answered) first
        (subst (λ (edits : GuardedEdits). IsEntered old desk (asked.Commit base edits) new answered) same entered))

    pub settled_as : committed c set.edits ≡ left_unless (refusal_told answered) (history_of new).cell
    settled_as = settled c new desk set none answered as_first

    pub large_as : (why : StateRefusal) → find_their_records set.edits c ≡ true → refusal_told answered ≡ Some why → IsTooLarge why
    large_as why found is = large_told c new desk set none answered why as_first found is

-- the cell that is left is the edited one
pub left_is : (c : Cell) (edits : List Edit) (d : Cell) → committed c edits ≡ Ok d → apply_edits edits c ≡ d
left_is c edits d = by (commit_refusal c edits)
  where
    by : (refusal : Option StateRefusal) → left_unless refusal (apply_edits edits c) ≡ Ok d → apply_edits edits c ≡ d
    by None e = ok_left (apply_edits edits c) d e
    by (Some why) e = absurd (no_status d (Refused why) (sym e))
