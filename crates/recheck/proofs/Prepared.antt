-- What is prepared of edits: the rows of the affected subjects, all of them subjects of the edited cell, where the cell takes the edits.
use Rattle.std.proofs.Common.{◌≡◌, Bool, true, false, List, [], refl, sym, subst, if◌then◌else◌}
use Rattle.std.specs.Prelude.{All, IsPermutation, IsTrue, MatchBool}
use Rattle.std.proofs.lemmas.Bool.{and_parts}
use Rattle.std.proofs.lemmas.List.Elements.{filter_passes}
use Rattle.std.proofs.lemmas.List.Sorted.{IsPermutation-refl}
use Rattle.s57_types.specs.declared.cell.Cell.{Cell}
use Rattle.cell_spec.specs.declared.edit.Edit.{Edit}
use Rattle.cell_spec.specs.declared.finding.Row.{Row}
use Rattle.cell_spec.specs.declared.key.Subject.{Subject}
use Rattle.cell_spec.specs.Edits.{apply_edits, find_their_records, is_applicable}
use Rattle.rule_spec.specs.Affected.{RowsAreExact, affected_list, change_by, considered, each_once}
use Rattle.rule_spec.specs.Findings.{is_subject}
use Rattle.recheck.specs.Preparing.{edited_rows, prepared_rows}

pub found : (edits : List Edit) (c : Cell) → is_applicable edits c ≡ true → find_their_records edits c ≡ true
found edits c taken = (and_parts (find_their_records edits c) _ taken).0

-- the affected list has subjects of the edited cell alone
pub all_there : (edits : List Edit) (c : Cell) (list judged : List Subject) → list ≡ affected_list (change_by edits c) → judged ≡ list
    → All (λ s. IsTrue (is_subject (apply_edits edits c) s)) judged
unfolding affected_list
all_there edits c list judged is same =
    subst (All (λ s. IsTrue (is_subject (apply_edits edits c) s))) (sym same)
    (subst (All (λ s. IsTrue (is_subject (apply_edits edits c) s))) (sym is)
    (filter_passes (is_subject (apply_edits edits c)) (each_once (considered (change_by edits c)))))

-- the rows are those that edits want
pub rows_right : (edits : List Edit) (c : Cell) (rows : List Row) → rows ≡ prepared_rows edits c → RowsAreExact edits c rows
rows_right edits c rows is = subst (RowsAreExact edits c) (sym is) (by (is_applicable edits c) (edited_rows edits c))
  where
    by : (taken : Bool) (all : List Row) → MatchBool taken (IsPermutation (if taken then all else []) all) ((if taken then all else []) ≡ [])
    by true all = IsPermutation-refl all
    by false all = refl
