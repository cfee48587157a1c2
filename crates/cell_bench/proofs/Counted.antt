-- How many findings are fresh, and how many look-ups judging anew makes.
use Rattle.std.proofs.Common.{◌≡◌, None, ℕ, ◌+◌, ◌*◌, ◌≤◌, Bool, true, false, List, [], ◌∷◌, cond, filter, length, refl, sym, ap, ◌∙◌, subst, arith}
use Rattle.std.specs.Prelude.{nat_lt, not, sum_by}
use Rattle.std.proofs.lemmas.Bool.Decides.{nat_tests}
use Rattle.std.proofs.lemmas.List.Filters.{sum_by-filter_both}
use Rattle.std.proofs.lemmas.List.Sorted.{sum_by-IsPermutation}
use Rattle.std.proofs.lemmas.List.Sums.{sum_by-cons}
use Rattle.s57_types.specs.declared.cell.Cell.{Cell}
use Rattle.cell_spec.specs.declared.edit.Edit.{Edit}
use Rattle.cell_spec.specs.declared.finding.Finding.{Finding}
use Rattle.cell_spec.specs.declared.finding.Row.{Row}
use Rattle.cell_spec.specs.declared.key.Key.{Key}
use Rattle.cell_spec.specs.declared.key.Subject.{Subject}
use Rattle.cell_spec.specs.Edits.{apply_edits, is_applicable, touched_keys}
use Rattle.rule_spec.specs.Affected.{affected_list, change_by, considered, each_once, has_valid_row, is_affected, judged_anew, lookup_budget}
use Rattle.rule_spec.specs.Affected.{plan_budget, reads_counted}
use Rattle.rule_spec.specs.Findings.{all_findings, finding_total, findings_among, findings_of_subject, is_subject, subjects}
use Rattle.rule_spec.specs.Reads.{read_set}
use Rattle.answer_laws.specs.EditedAnswers.{FindTheirRecords}
use Rattle.finding_laws.specs.Unaffected.{AffectedListIsSet}
use Rattle.edit_laws.specs.KeptWritable.{RefusalsAreExact}
use Rattle.cell_bench.specs.declared.refusal.PlanRefusal.{PlanRefusal}
use Rattle.cell_bench.specs.Limits.{IsFull}
use Rattle.cell_bench.specs.Rejudging.{Rejudging, fresh_in, planning_look_ups, reads_anew, without, without_all}
use Rattle.cell_bench.specs.Verdicts.{total_of}
use Rattle.cell_bench.specs.Refusals.{records_refusal}
use Rattle.cell_bench.proofs.Refused.{full_of_more, taken_so}

-- ---- fresh findings
pub fresh_left : (gone : List Subject) (r : Rejudging) → (without_all r gone).fresh ≡ r.fresh
fresh_left [] r = refl
fresh_left (s ∷ gone) r = let more : (without_all (without r s) gone).fresh ≡ r.fresh + 0 = fresh_left gone (without r s) in omega (arith, more)

abbrev count_in : Cell → Subject → ℕ
count_in d s = length (findings_of_subject d s)

pub fresh_cons : (d : Cell) (s : Subject) (ss : List Subject) → fresh_in d (s ∷ ss) ≡ count_in d s + fresh_in d ss
fresh_cons d s ss = sum_by-cons (count_in d) s ss

-- those that a cell has are those of its subjects
abbrev row_in : Cell → Subject → Subject × List Finding
row_in c s = (s, findings_of_subject c s)

abbrev has_some : Subject × List Finding → Bool
has_some row = nat_lt 0 (length row.1)

counted_by : (row : Subject × List Finding) (rows : List (Subject × List Finding)) (n : ℕ) (some : Bool) → has_some row ≡ some → total_of rows ≡ n
    → total_of (cond some (row ∷ rows) rows) ≡ length row.1 + n
counted_by row rows n true is more = sum_by-cons (λ (r : Subject × List Finding). length r.1) row rows ∙ ap (λ k. length row.1 + k) more
counted_by row rows n false is more = let none : length row.1 ≡ 0 = nothing (length row.1) is in omega (arith, more, none)
  where
    nothing : (k : ℕ) → nat_lt 0 k ≡ false → k ≡ 0
    nothing k e = grind (arith, nat_tests)

all_counted : (c : Cell) (ss : List Subject) → total_of (findings_among c ss) ≡ fresh_in c ss
all_counted c [] = refl
all_counted c (s ∷ ss) = counted_by (row_in c s) (findings_among c ss) (fresh_in c ss) (has_some (row_in c s)) refl (all_counted c ss) ∙ sym (fresh_cons c s ss)

total_is : (c : Cell) → finding_total c ≡ fresh_in c (subjects c)
unfolding all_findings
total_is c = all_counted c (subjects c)

-- the fresh findings are some of the edited cell's
pub fresh_within : (edits : List Edit) (c : Cell) → FindTheirRecords edits c → AffectedListIsSet
    → fresh_in (apply_edits edits c) (affected_list (change_by edits c)) ≤ finding_total (apply_edits edits c)
fresh_within edits c fit set =
    let d = apply_edits edits c in
    let affected = is_affected (change_by edits c) in
    let moved : fresh_in d (filter affected (subjects d)) ≡ fresh_in d (affected_list (change_by edits c)) =
    sum_by-IsPermutation (count_in d) (affected_list (change_by edits c)) (filter affected (subjects d)) (set edits c fit) in
    let parts : fresh_in d (filter affected (subjects d)) + fresh_in d (filter (λ s. not (affected s)) (subjects d)) ≡ fresh_in d (subjects d) =
    sum_by-filter_both affected (λ s. not (affected s)) (λ s. refl) (count_in d) (subjects d) in
    omega (arith, moved, parts, total_is d)

-- too many fresh ones in the cell that a bench is kept as are too many findings in the cell that it is seen as
pub full_when_fresh : (edits : List Edit) (c d : Cell) → d ≡ c → FindTheirRecords edits d → AffectedListIsSet → (why : PlanRefusal)
    → IsFull (fresh_in (apply_edits edits d) (affected_list (change_by edits d))) why → IsFull (finding_total (apply_edits edits c)) why
full_when_fresh edits c d is fit set why full = subst (λ (e : Cell). IsFull (finding_total (apply_edits edits e)) why) is
    (full_of_more (fresh_in (apply_edits edits d) (affected_list (change_by edits d))) (finding_total (apply_edits edits d)) why
    (fresh_within edits d fit set) full)

-- ---- look-ups
module _ (c d : Cell) (stale : List Key) (rows : List Row) where
  abbrev counted : Subject → ℕ
  counted s = reads_counted c s + reads_counted d s

  abbrev is_anew : Subject → Bool
  is_anew s = not (has_valid_row stale rows s)

  anew_by : (s : Subject) (judged : List Subject) (n : ℕ) (valid : Bool) → is_subject d s ≡ true → n ≤ sum_by counted (filter is_anew judged)
      → cond valid 0 (length (read_set d s)) + n ≤ sum_by counted (cond (not valid) (s ∷ filter is_anew judged) (filter is_anew judged))
  anew_by s judged n true is more = omega (arith, more)
  anew_by s judged n false is more =
      let own : reads_counted d s ≡ length (read_set d s) = ap (λ b. cond b (length (read_set d s)) 0) is in
      omega (arith, own, more, sum_by-cons counted s (filter is_anew judged))

  kept_by : (s : Subject) (judged : List Subject) (there : Bool) → is_subject d s ≡ there
      → sum_by (reads_anew d stale rows) judged ≤ sum_by counted (filter is_anew judged)
      → sum_by (reads_anew d stale rows) (cond there (s ∷ judged) judged) ≤ sum_by counted (filter is_anew (cond there (s ∷ judged) judged))
  kept_by s judged true is more =
      let one = anew_by s judged (sum_by (reads_anew d stale rows) judged) (has_valid_row stale rows s) is more in
      omega (arith, one, sum_by-cons (reads_anew d stale rows) s judged)
  kept_by s judged false is more = more

  pub anew_within : (ss : List Subject) → sum_by (reads_anew d stale rows) (filter (is_subject d) ss) ≤ sum_by counted
      (filter is_anew (filter (is_subject d) ss))
  anew_within [] = omega arith
  anew_within (s ∷ ss) = kept_by s (filter (is_subject d) ss) (is_subject d s) refl (anew_within ss)

pub reads_within : (edits : List Edit) (c : Cell) (stale : List Key) (rows : List Row)
    → sum_by (reads_anew (apply_edits edits c) stale rows) (affected_list (change_by edits c))
    ≤ sum_by (λ s. reads_counted c s + reads_counted (apply_edits edits c) s) (judged_anew (change_by edits c) stale rows)
unfolding affected_list
reads_within edits c stale rows = anew_within c (apply_edits edits c) stale rows (each_once (considered (change_by edits c)))

-- a plan may look up each edit four times, and more where the cell takes the edits
abbrev reads_allowed : List Edit → Cell → List Key → List Row → ℕ
reads_allowed edits c stale rows = sum_by (λ s. reads_counted c s + reads_counted (apply_edits edits c) s) (judged_anew (change_by edits c) stale rows)

budget_by : (edits : List Edit) (c : Cell) (stale : List Key) (rows : List Row) (taken : Bool) → is_applicable edits c ≡ taken
    → plan_budget edits c stale rows ≡ cond taken (4 * (reads_allowed edits c stale rows + length (touched_keys edits c) + length edits)) (4 * length edits)
unfolding lookup_budget
budget_by edits c stale rows taken is = ap (λ b. cond b (4 * (reads_allowed edits c stale rows + length (touched_keys edits c) + length edits))
    (4 * length edits)) is

least_by : (n m : ℕ) (taken : Bool) → 4 * n ≤ cond taken (4 * (m + n)) (4 * n)
least_by n m true = omega arith
least_by n m false = omega arith

pub least_budget : (edits : List Edit) (c : Cell) (stale : List Key) (rows : List Row) → 4 * length edits ≤ plan_budget edits c stale rows
least_budget edits c stale rows =
    let is = budget_by edits c stale rows (is_applicable edits c) refl in
    let least = least_by (length edits) (reads_allowed edits c stale rows + length (touched_keys edits c)) (is_applicable edits c) in
    subst (λ n. 4 * length edits ≤ n) (sym is) least

-- one look-up more an edit is within the budget of edits that the cell takes
pub whole_budget : (edits : List Edit) (c : Cell) (stale : List Key) (rows : List Row) → is_applicable edits c ≡ true
    → planning_look_ups edits c stale rows + length edits ≤ plan_budget edits c stale rows
whole_budget edits c stale rows taken = omega (arith, budget_by edits c stale rows true taken, reads_within edits c stale rows)

-- so it is of the cell that a bench is kept as, where none of the records and the head refuses the edits
pub plan_within : RefusalsAreExact → (edits : List Edit) (stale : List Key) (rows : List Row) {c d e : Cell} → d ≡ c → records_refusal d edits ≡ None → e ≡ c
    → planning_look_ups edits e stale rows + length edits ≤ plan_budget edits c stale rows
plan_within exact edits stale rows {c} {d} {e} same none is =
    subst (λ (b : Cell). planning_look_ups edits b stale rows + length edits ≤ plan_budget edits c stale rows) (sym is)
    (whole_budget edits c stale rows (taken_so exact c edits (subst (λ (b : Cell). records_refusal b edits ≡ None) same none)))
