-- How many findings rows have after a change of them.
use Rattle.std.proofs.Common.{◌≡◌, ◌+◌, ◌≤◌, Bool, true, false, List, [], ◌∷◌, Some, cond, length, refl, ap, arith, Ordering, Less, Equal, Greater, is_eq}
use Rattle.std.specs.Prelude.{nat_lt}
use Rattle.std.specs.Map.{keys_of}
use Rattle.std.specs.Ordering.{match_ordering}
use Rattle.std.proofs.lemmas.Bool.Decides.{nat_tests}
use Rattle.std.proofs.lemmas.List.Sums.{sum_by-cons}
use Rattle.std.proofs.lemmas.Map.Keys.{sorted_head, sorted_tail}
use Rattle.cell_spec.specs.declared.finding.Finding.{Finding}
use Rattle.cell_spec.specs.declared.key.Subject.{Subject}
use Rattle.cell_spec.specs.Names.{subject_order}
use Rattle.cell_spec.proofs.SubjectOrder.{total_subjects}
use Rattle.row_spec.specs.Rows.{IsAscending, value_of, with_row, without_key}
use Rattle.cell_bench.specs.Verdicts.{count_at, total_of, with_findings}
use Rattle.row_spec.proofs.Place.{above_greater, value_of-above}

pub total_cons : (row : Subject × List Finding) (rows : List (Subject × List Finding)) → total_of (row ∷ rows) ≡ length row.1 + total_of rows
total_cons row rows = sum_by-cons (λ (r : Subject × List Finding). length r.1) row rows

with_by : (row : Subject × List Finding) (rows : List (Subject × List Finding)) (s : Subject) (fs : List Finding) (o : Ordering) → subject_order row.0 s ≡ o
    → IsAscending subject_order (row ∷ rows)
    → total_of (with_row subject_order rows s fs) + count_at (value_of subject_order rows s) ≡ total_of rows + length fs
    → total_of (match_ordering o (row ∷ with_row subject_order rows s fs) ((s, fs) ∷ rows) ((s, fs) ∷ row ∷ rows)) + count_at
    (cond (is_eq o) (Some row.1) (value_of subject_order rows s))
    ≡ total_of (row ∷ rows) + length fs
with_by row rows s fs Less is ascending more = omega (arith, more, total_cons row (with_row subject_order rows s fs), total_cons row rows)
with_by row rows s fs Equal is ascending more = omega (arith, total_cons (s, fs) rows, total_cons row rows)
with_by row rows s fs Greater is ascending more =
    let none = value_of-above subject_order rows s (above_greater subject_order total_subjects row.0 s rows is
    (sorted_head subject_order row.0 (keys_of rows) ascending)) in
    let nothing : count_at (value_of subject_order rows s) ≡ 0 = ap count_at none in
    omega (arith, nothing, total_cons (s, fs) (row ∷ rows))

-- a row that is put comes in place of the one that was there
pub total_with_row : (rows : List (Subject × List Finding)) (s : Subject) (fs : List Finding) → IsAscending subject_order rows
    → total_of (with_row subject_order rows s fs) + count_at (value_of subject_order rows s) ≡ total_of rows + length fs
total_with_row [] s fs ascending = omega (arith, total_cons (s, fs) [])
total_with_row (row ∷ rows) s fs ascending =
    with_by row rows s fs (subject_order row.0 s) refl ascending (total_with_row rows s fs (sorted_tail subject_order row.0 (keys_of rows) ascending))

without_by : (row : Subject × List Finding) (rows : List (Subject × List Finding)) (s : Subject) (tie : Bool)
    → total_of (without_key subject_order rows s) + count_at (value_of subject_order rows s) ≡ total_of rows
    → total_of (cond tie rows (row ∷ without_key subject_order rows s)) + count_at (cond tie (Some row.1) (value_of subject_order rows s)) ≡
    total_of (row ∷ rows)
without_by row rows s true more = omega (arith, total_cons row rows)
without_by row rows s false more = omega (arith, more, total_cons row (without_key subject_order rows s), total_cons row rows)

pub total_without : (rows : List (Subject × List Finding)) (s : Subject)
    → total_of (without_key subject_order rows s) + count_at (value_of subject_order rows s) ≡ total_of rows
total_without [] s = refl
total_without (row ∷ rows) s = without_by row rows s (is_eq (subject_order row.0 s)) (total_without rows s)

-- the findings that are put come in place of those that were there
pub total_with : (rows : List (Subject × List Finding)) (s : Subject) (found : List Finding) → IsAscending subject_order rows
    → total_of (with_findings rows s found) + count_at (value_of subject_order rows s) ≡ total_of rows + length found
total_with rows s found ascending = by (nat_lt 0 (length found)) refl
  where
    by : (some : Bool) → nat_lt 0 (length found) ≡ some
        → total_of (cond some (with_row subject_order rows s found) (without_key subject_order rows s)) + count_at
        (value_of subject_order rows s) ≡ total_of rows + length found
    by true is = total_with_row rows s found ascending
    by false is = let without = total_without rows s in grind (arith, nat_tests)

pub count_within : (rows : List (Subject × List Finding)) (s : Subject) → count_at (value_of subject_order rows s) ≤ total_of rows
count_within rows s = omega (arith, total_without rows s)
