-- All findings of a writable cell are those about its judged subjects, one subject after the other.
use Rattle.std.proofs.Common.{◌≡◌, ℕ, ◌<◌, ◌≤◌, true, List, [], ◌∷◌, ◌++◌, map, length, cond, refl, sym, ap, ◌∙◌, subst, arith}
use Rattle.std.specs.Prelude.{Err, MatchResult, Ok, Result, nat_lt}
use Rattle.std.specs.List.{flat_map}
use Rattle.std.proofs.lemmas.Bool.Decides.{nat_tests}
use Rattle.s57_types.specs.declared.cell.Cell.{Cell}
use Rattle.cell_spec.specs.declared.finding.Finding.{Finding}
use Rattle.cell_spec.specs.declared.key.Subject.{Subject}
use Rattle.cell_spec.specs.Writable.{IsWritable}
use Rattle.rule_spec.specs.Findings.{all_findings, finding_total, findings_among, findings_of_subject, subjects}
use Rattle.cell_findings.specs.declared.list.SubjectFinding.{SubjectFinding}
use Rattle.cell_findings.specs.declared.refusal.LoadRefusal.{LoadRefusal}
use Rattle.cell_findings.specs.declared.refusal.LoadRefusal.TheVariants.{FindingsFull, NoMemory}
use Rattle.cell_findings.specs.AllFindings.{IsAllOf, IsFindingRefusal}
use Rattle.cell_findings.specs.Gathered.{IsGathered, IsOver}
use Rattle.cell_findings.specs.Judged.{judged_subjects, subject_findings}
use Rattle.cell_findings.specs.Rows.{with_subject, findings_of_rows}
use Rattle.cell_findings.proofs.Judged.{subjects_are}
use Rattle.cell_findings.proofs.RowTexts.{row_counts}

-- ---- rows one after the other
one_row : (s : Subject) (fs : List Finding) (rest : List (Subject × List Finding))
    → findings_of_rows (cond (nat_lt 0 (length fs)) ((s, fs) ∷ rest) rest) ≡ map (with_subject s) fs ++ findings_of_rows rest
one_row s [] rest = refl
one_row s (f ∷ fs) rest =
    let some : nat_lt 0 (length (f ∷ fs)) ≡ true = grind (arith, nat_tests) in
    ap (λ b. findings_of_rows (cond b ((s, f ∷ fs) ∷ rest) rest)) some

rows_among : (c : Cell) (ss : List Subject) → findings_of_rows (findings_among c ss) ≡ flat_map (subject_findings c) ss
rows_among c [] = refl
rows_among c (s ∷ ss) =
    one_row s (findings_of_subject c s) (findings_among c ss)
    ∙ ap (λ rest. subject_findings c s ++ rest) (rows_among c ss)

rows_of_all : (c : Cell) → findings_of_rows (all_findings c) ≡ flat_map (subject_findings c) (subjects c)
unfolding all_findings
rows_of_all c = rows_among c (subjects c)

module _ (c : Cell) (w : IsWritable c) where
  pub all_are_judged : findings_of_rows (all_findings c) ≡ flat_map (subject_findings c) (judged_subjects c)
  all_are_judged =
      rows_of_all c ∙ ap (flat_map (subject_findings c)) (subjects_are c w)

  total : length (flat_map (subject_findings c) (judged_subjects c)) ≡ finding_total c
  total = ap (λ rows. length rows) (sym all_are_judged) ∙ row_counts (all_findings c)

  -- what was gathered is all
  pub gathered_is_all : (limit : ℕ) (found : List SubjectFinding) → IsGathered limit (flat_map (subject_findings c) (judged_subjects c)) found
      → IsAllOf c limit found
  gathered_is_all limit found is = record {
    all = is.same ∙ sym all_are_judged;
    count = ap (λ rows. length rows) is.same ∙ total;
    within = subst (λ n. n ≤ limit) total is.within;
  }

  -- what was refused has its cause in the cell
  pub over_is_refusal : (limit : ℕ) (refusal : LoadRefusal) → IsOver limit (flat_map (subject_findings c) (judged_subjects c)) refusal
      → IsFindingRefusal c limit refusal
  over_is_refusal limit FindingsFull is = subst (λ n. limit < n) total is
  over_is_refusal limit NoMemory is = tt

  -- what was gathered or refused by parts
  pub all_of_parts : (limit : ℕ) (all : List SubjectFinding) → all ≡ flat_map (subject_findings c) (judged_subjects c)
      → (r : Result (List SubjectFinding) LoadRefusal) → MatchResult r (IsGathered limit all) (IsOver limit all)
      → MatchResult r (IsAllOf c limit) (IsFindingRefusal c limit)
  all_of_parts limit all same (Ok found) h = gathered_is_all limit found (subst (λ fs. IsGathered limit fs found) same h)
  all_of_parts limit all same (Err refusal) h = over_is_refusal limit refusal (subst (λ fs. IsOver limit fs refusal) same h)
