-- Rows that were right on the cell of a base are ready for the cell that the commits above it left.
use Rattle.std.proofs.Common.{◌≡◌, ℕ, Bool, true, false, List, [], None, All, drop, flat_map, map, refl, sym, ap, subst, ◌∙◌}
use Rattle.std.specs.Prelude.{IsPermutation, IsTrue, MatchBool}
use Rattle.std.proofs.lemmas.Bool.{and_parts}
use Rattle.std.proofs.lemmas.List.Elements.{All-map, All-nil}
use Rattle.std.proofs.lemmas.List.Sorted.{All-permutation, IsPermutation-sym}
use Rattle.s57_types.specs.declared.cell.Cell.{Cell}
use Rattle.cell_spec.specs.declared.finding.Row.{Row}
use Rattle.cell_spec.specs.declared.key.Key.{Key}
use Rattle.cell_spec.specs.declared.key.Subject.{Subject}
use Rattle.cell_spec.specs.AnswersAlike.{AnswerAlike}
use Rattle.cell_spec.specs.Edits.{apply_edits, find_their_records, is_applicable}
use Rattle.cell_spec.specs.Names.{same_key}
use Rattle.cell_spec.specs.Readable.{WritableCellsAreReadable}
use Rattle.cell_spec.specs.Writable.{IsWritable}
use Rattle.std.specs.List.{list_any}
use Rattle.rule_spec.specs.Affected.{RowsAreExact, affected_list, change_by, exact_row, is_still_valid}
use Rattle.edit_sets.specs.FormFault.{GuardedEdits, IsFormed}
use Rattle.answer_laws.specs.EditedAnswers.{FindTheirRecords, UntouchedKeysKeepAnswers}
use Rattle.answer_laws.specs.EditedCells.{FormedEditsFindTheirRecords}
use Rattle.edit_laws.specs.KeptWritable.{RefusalsAreExact, is_taken}
use Rattle.finding_laws.specs.Unaffected.{ValidRowsStayExact}
use Rattle.history_spec.specs.declared.entry.Entry.{Entry}
use Rattle.history_spec.specs.EntriesReport.{cell_told}
use Rattle.history_spec.specs.Steps.{cell_after, state_refusal}
use Rattle.cell_bench.specs.Benches.{AreReady}
use Rattle.room_laws.proofs.Bases.{level_told}
use Rattle.commit_book.specs.declared.accepted.Accepted.{Accepted as Taken}
use Rattle.commit_book.specs.Books.{IsKept, commit_of, touched_in}
use Rattle.commit_book.proofs.Kept.{same_level}
use Rattle.commit_book.proofs.Taken.{alike_above, edited, newest, touched_above, writable_after}

-- the edits of a set at the level of a writable cell that has their records find them
pub finds : WritableCellsAreReadable → FormedEditsFindTheirRecords → (d : Cell) (set : GuardedEdits) → IsWritable d
    → IsFormed set.nall set.edits set.guards → set.nall ≡ d.head.nall
    → find_their_records set.edits d ≡ true → FindTheirRecords set.edits d
finds readable formed d set writable form level found = formed d set.edits set.guards (readable d writable)
    (subst (λ nall. IsFormed nall set.edits set.guards) level form) found

pub found_where_taken : (d : Cell) (set : GuardedEdits) → is_applicable set.edits d ≡ true → find_their_records set.edits d ≡ true
found_where_taken d set taken = (and_parts (find_their_records set.edits d) _ taken).0

pub taken_where_unrefused : RefusalsAreExact → (d : Cell) (set : GuardedEdits) → state_refusal d set.edits ≡ None → is_applicable set.edits d ≡ true
taken_where_unrefused exact d set none = sym (exact d set.edits) ∙ ap is_taken none

-- each of exact rows is right by its subject
each_right : (d : Cell) (subjects : List Subject) (rows : List Row) → IsPermutation rows (map (exact_row d) subjects)
    → All (λ (row : Row). row ≡ exact_row d row.subject) rows
each_right d subjects rows moved =
    let Right : Row → Type 0 = λ row. row ≡ exact_row d row.subject in
    All-permutation Right (map (exact_row d) subjects) rows (IsPermutation-sym rows (map (exact_row d) subjects) moved)
    (All-map Right (exact_row d) subjects (λ k s below. refl))

-- by whether the older cell c takes the edits: rows that are right there are ready for the newer cell d
pub ready_by : ValidRowsStayExact → (c d : Cell) (set : GuardedEdits) (stale : List Key) (rows : List Row)
    → (find_their_records set.edits c ≡ true → FindTheirRecords set.edits c)
    → (find_their_records set.edits d ≡ true → FindTheirRecords set.edits d) → ((k : Key) → list_any (same_key k) stale ≡ false → AnswerAlike c d k)
    → (taken : Bool) → is_applicable set.edits c ≡ taken → MatchBool taken
    (IsPermutation rows (map (exact_row (apply_edits set.edits c)) (affected_list (change_by set.edits c)))) (rows ≡ [])
    → AreReady d set.edits stale rows
ready_by stay c d set stale rows fit_c fit_d kept true taken right found =
    let each = each_right (apply_edits set.edits c) (affected_list (change_by set.edits c)) rows right in
    λ k row below valid. stay set.edits c d (fit_c (found_where_taken c set taken)) (fit_d found) stale kept _ (each k row below) valid
ready_by stay c d set stale rows fit_c fit_d kept false taken right found =
    subst (All (λ (row : Row). IsTrue (is_still_valid stale row) → row ≡ exact_row (apply_edits set.edits d) row.subject)) (sym right) (All-nil _)

-- what a book keeps makes them so
module _ (c : Cell) (entries : List Entry) (cell : Cell) (accepted : List Taken) (kept : IsKept c entries cell accepted) where
  -- the cell at a base
  told_is : (base : ℕ) → cell_told c entries base ≡ cell_after base (map commit_of accepted) c
  told_is base = ap (λ commits. cell_after base commits c) (sym kept.commits_are)

  cell_is : cell ≡ edited c accepted
  cell_is = kept.cell_is ∙ newest c entries accepted kept.commits_are

  pub level_now : c.head.nall ≡ cell.head.nall
  level_now = sym (ap (λ (d : Cell). d.head.nall) kept.cell_is ∙ same_level c entries)

  pub rows_ready : WritableCellsAreReadable → FormedEditsFindTheirRecords → UntouchedKeysKeepAnswers → ValidRowsStayExact
      → IsWritable cell → (base : ℕ) (set : GuardedEdits) (rows : List Row)
      → IsFormed set.nall set.edits set.guards → set.nall ≡ c.head.nall → RowsAreExact set.edits (cell_told c entries base) rows
      → AreReady cell set.edits (flat_map touched_in (drop base accepted)) rows
  rows_ready readable formed untouched stay writable base set rows form level right =
      let told = cell_told c entries base in
      let writable_then : IsWritable told = subst IsWritable (sym (told_is base))
      (writable_after base c accepted kept.taken (subst IsWritable cell_is writable)) in
      let alike : (k : Key) → list_any (same_key k) (flat_map touched_in (drop base accepted)) ≡ false → AnswerAlike told cell k =
      λ k none. subst (λ (d : Cell × Cell). AnswerAlike d.0 d.1 k) (λ i. (sym (told_is base) i, sym cell_is i))
      (alike_above untouched base c accepted kept.taken k (sym (ap (list_any (same_key k)) (touched_above base c accepted kept.taken)) ∙ none)) in
      ready_by stay told cell set (flat_map touched_in (drop base accepted)) rows
      (finds readable formed told set writable_then form (level ∙ sym (level_told c entries base)))
      (finds readable formed cell set writable form (level ∙ level_now))
      alike (is_applicable set.edits told) refl right
