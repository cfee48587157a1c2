-- What judging subjects anew makes of the findings of a cell and of the read sets that are kept. This project's own rules.
use Rattle.std.specs.Prelude.{◌≡◌, ℕ, ◌+◌, ◌*◌, ◌&&◌, Bool, List, [], ◌∷◌, ◌++◌, Option, None, Some, fold, length, sum_by, if◌then◌else◌}
use Rattle.std.specs.List.{list_any}
use Rattle.s57_types.specs.declared.cell.Cell.{Cell}
use Rattle.cell_spec.specs.declared.edit.Edit.{Edit}
use Rattle.cell_spec.specs.declared.finding.Finding.{Finding}
use Rattle.cell_spec.specs.declared.finding.Row.{Row}
use Rattle.cell_spec.specs.declared.key.Key.{Key}
use Rattle.cell_spec.specs.declared.key.Subject.{Subject}
use Rattle.cell_spec.specs.Edits.{apply_edits, touched_keys}
use Rattle.cell_spec.specs.Names.{same_subject, subject_order}
use Rattle.rule_spec.specs.Affected.{affected_list, change_by, exact_row, has_valid_row, is_single}
use Rattle.rule_spec.specs.Findings.{findings_of_subject}
use Rattle.rule_spec.specs.Reads.{read_set}
use Rattle.row_spec.specs.Rows.{IsAscending, value_of}
use Rattle.finding_laws.specs.Tables.{IsReadsOf, IsVerdictTable, reads_in, verdict_in}
use Rattle.depend_map.specs.declared.change.ReadChange.{ReadChange}
use Rattle.depend_map.specs.Changes.{after_changes, reads_after}
use Rattle.cell_bench.specs.Verdicts.{with_findings}

-- the findings so far, the changes of read sets so far, and how many of the findings are fresh
pub record Rejudging : Type 0 where
  pub rows : List (Subject × List Finding)
  pub changes : List ReadChange
  pub fresh : ℕ

-- before the first subject
abbrev pub unchanged : List (Subject × List Finding) → Rejudging
unchanged rows = record { rows = rows; changes = []; fresh = 0 }

-- the change of what a subject reads: none for a pair, since what that reads isn't kept
abbrev pub change_of : Subject → Option (List Key) → List ReadChange
change_of s reads = if is_single s then record { subject = s; reads = reads } ∷ [] else []

-- a subject gets these findings and these reads, or goes with those that it has
abbrev pub with_change : Rejudging → Subject → List Finding → Option (List Key) → Rejudging
with_change r s found reads = record {
  rows = with_findings r.rows s found;
  changes = r.changes ++ change_of s reads;
  fresh = r.fresh + length found;
}

-- a subject that the edited cell hasn't goes
abbrev pub without : Rejudging → Subject → Rejudging
without r s = with_change r s [] None

-- a subject gets what its row says
abbrev pub with_row_of : Rejudging → Row → Rejudging
with_row_of r row = with_change r row.subject row.findings (Some row.reads)

-- subjects go, one after the other
abbrev pub without_all : Rejudging → List Subject → Rejudging
without_all r gone = fold without r gone

-- subjects are judged in a cell, one after the other
abbrev pub judged_in : Cell → Rejudging → List Subject → Rejudging
judged_in d r judged = fold (λ before s. with_row_of before (exact_row d s)) r judged

-- subjects get what rows say, one after the other
abbrev pub with_rows : Rejudging → List Row → Rejudging
with_rows r rows = fold with_row_of r rows

-- how many findings rows have
abbrev pub fresh_among : List Row → ℕ
fresh_among rows = sum_by (λ (row : Row). length row.findings) rows

-- how many findings subjects have in a cell
abbrev pub fresh_in : Cell → List Subject → ℕ
fresh_in d subjects = sum_by (λ s. length (findings_of_subject d s)) subjects

-- how many keys a subject that has no valid row reads
abbrev pub reads_anew : Cell → List Key → List Row → Subject → ℕ
reads_anew d stale rows s = if has_valid_row stale rows s then 0 else length (read_set d s)

-- how many look-ups planning edits makes at most: those for the edits and the keys that they touch, and those that judge subjects without a valid row
abbrev pub planning_look_ups : List Edit → Cell → List Key → List Row → ℕ
planning_look_ups edits c stale rows =
    3 * length edits + (2 * length (touched_keys edits c) + 4 * sum_by (reads_anew (apply_edits edits c) stale rows) (affected_list (change_by edits c)))

-- ---- what each subject has on the way
abbrev pub is_done : List Subject → Subject → Bool
is_done done s = list_any (same_subject s) done

-- subjects that are done have the findings and the reads of the edited cell, and the others what they had
pub record IsRejudged (c d : Cell) (done : List Subject) (r : Rejudging) : Type 0 where
  pub ascending : IsAscending subject_order r.rows
  pub verdicts : (s : Subject) → value_of subject_order r.rows s ≡ (if is_done done s then verdict_in d s else verdict_in c s)
  pub reads : (had : Option (List Key)) (s : Subject) → reads_after had r.changes s ≡ (if is_single s && is_done done s then reads_in d s else had)

-- edits leave these findings, and the read sets that the changes leave
pub record IsRejudgedBy (c : Cell) (edits : List Edit) (r : Rejudging) : Type 0 where
  pub verdicts_are : IsVerdictTable (apply_edits edits c) r.rows
  pub reads_are : (reads : List (Subject × List Key)) → IsReadsOf c reads → IsReadsOf (apply_edits edits c) (after_changes reads r.changes)
