-- Rows whose findings stand one after the other are found again.
use Rattle.std.proofs.Common.{◌≡◌, ℕ, ◌+◌, ◌<◌, true, false, List, [], ◌∷◌, ◌++◌, cond, length, map, take, drop, refl, sym, ap, ◌∙◌, subst, append_assoc}
use Rattle.std.proofs.Common.{arith}
use Rattle.std.specs.declared.cmp.Ordering.TheVariants.{Less}
use Rattle.std.specs.List.{AllByRecursion, prefix_len}
use Rattle.std.specs.List.Sorted.{IsStrictlySortedBy}
use Rattle.std.specs.Map.{keys_of}
use Rattle.std.specs.Ordering.{is_eq, ordering_reverse}
use Rattle.std.specs.Prelude.{nat_lt}
use Rattle.std.proofs.Math.Seq.{take-append_seam, drop-append_seam}
use Rattle.std.proofs.lemmas.Bool.Decides.{nat_tests}
use Rattle.std.proofs.lemmas.List.Elements.{filter_passes, recursion_from_All}
use Rattle.s57_types.specs.declared.cell.Cell.{Cell}
use Rattle.cell_spec.specs.declared.finding.Finding.{Finding}
use Rattle.cell_spec.specs.declared.key.Subject.{Subject}
use Rattle.cell_spec.specs.Names.{same_subject, subject_order}
use Rattle.cell_spec.proofs.EachItem.{each_weaker}
use Rattle.cell_spec.proofs.SubjectOrder.{total_subjects}
use Rattle.rule_spec.specs.Findings.{all_findings, findings_of_subject, subjects}
use Rattle.row_spec.specs.Rows.{IsAscending}
use Rattle.cell_findings.specs.declared.list.SubjectFinding.{SubjectFinding}
use Rattle.cell_findings.specs.Rows.{findings_of_rows, with_subject}
use Rattle.cell_findings.proofs.Ascending.{ties_itself}
use Rattle.finding_laws.specs.Tables.{IsVerdictTable}
use Rattle.cell_bench.specs.FindingTables.{AreRowsOf, finding_in, front_length, front_row, is_about}

abbrev HasSome : Subject × List Finding → Type 0
HasSome row = 0 < length row.1

-- ---- the run of findings at the front
about_itself : (s : Subject) → same_subject s s ≡ true
about_itself s = ap is_eq (ties_itself subject_order total_subjects s)

about_first : (f : SubjectFinding) (rest : List SubjectFinding) → prefix_len (is_about f.subject) (f ∷ rest) ≡ 1 + prefix_len (is_about f.subject) rest
about_first f rest = ap (λ b. cond b (1 + prefix_len (is_about f.subject) rest) 0) (about_itself f.subject)

run_of : (s : Subject) (gs : List Finding) (rest : List SubjectFinding) → prefix_len (is_about s) rest ≡ 0
    → prefix_len (is_about s) (map (with_subject s) gs ++ rest) ≡ length (map (with_subject s) gs)
run_of s [] rest none = none
run_of s (g ∷ gs) rest none =
    let others = map (with_subject s) gs ++ rest in
    let first : prefix_len (is_about s) (with_subject s g ∷ others) ≡ 1 + prefix_len (is_about s) others = about_first (with_subject s g) others in
    let more = run_of s gs rest none in
    omega (arith, first, more)

later_is_other : (s t : Subject) → subject_order s t ≡ Less → same_subject t s ≡ false
later_is_other s t before = ap is_eq (total_subjects.antisymm t s ∙ ap ordering_reverse before)

none_about : (s : Subject) (rows : List (Subject × List Finding)) → AllByRecursion HasSome rows → AllByRecursion (λ t. subject_order s t ≡ Less) (keys_of rows)
    → prefix_len (is_about s) (findings_of_rows rows) ≡ 0
none_about s [] some above = refl
none_about s ((t, []) ∷ rows) some above = absurd (omega (arith, some.0))
none_about s ((t, g ∷ gs) ∷ rows) some above =
    ap (λ b. cond b (1 + prefix_len (is_about s) (map (with_subject t) gs ++ findings_of_rows rows)) 0) (later_is_other s t above.0)

map_back : (s : Subject) (gs : List Finding) → map finding_in (map (with_subject s) gs) ≡ gs
map_back s [] = refl
map_back s (g ∷ gs) = ap (λ rest. g ∷ rest) (map_back s gs)

-- ---- the row at the front
pub record IsFront (rows : List (Subject × List Finding)) (findings : List SubjectFinding) : Type 0 where
  pub behind : List (Subject × List Finding)
  pub split : rows ≡ front_row findings ++ behind
  pub good : AreRowsOf behind (drop (front_length findings) findings)

no_rows : AreRowsOf [] []
unfolding IsStrictlySortedBy
no_rows = record { flat = refl; some = tt; ascending = tt }

first_row : (s : Subject) (gs : List Finding) (rows : List (Subject × List Finding)) (findings : List SubjectFinding) (n : ℕ)
    → n ≡ length (map (with_subject s) gs)
    → findings ≡ map (with_subject s) gs ++ findings_of_rows rows → map finding_in (take n findings) ≡ gs
first_row s gs rows findings n counted is =
    (λ i. map finding_in (take (counted i) (is i)))
    ∙ ap (map finding_in) (take-append_seam (map (with_subject s) gs) (findings_of_rows rows)) ∙ map_back s gs

front_of : (rows : List (Subject × List Finding)) → AllByRecursion HasSome rows → IsAscending subject_order rows → IsFront rows (findings_of_rows rows)
unfolding IsStrictlySortedBy
front_of [] some ascending = record { behind = []; split = refl; good = no_rows }
front_of ((s, []) ∷ rows) some ascending = absurd (omega (arith, some.0))
front_of ((s, g ∷ gs) ∷ rows) some ascending =
    let run = map (with_subject s) (g ∷ gs) in
    let findings = run ++ findings_of_rows rows in
    let counted : front_length findings ≡ length run = run_of s (g ∷ gs) (findings_of_rows rows) (none_about s rows some.1 ascending.0) in
    record {
      behind = rows;
      split = ap (λ fs. (s, fs) ∷ rows) (sym (first_row s (g ∷ gs) rows findings (front_length findings) counted refl));
      good = record {
        flat = ap (λ n. drop n findings) counted ∙ drop-append_seam run (findings_of_rows rows);
        some = some.1;
        ascending = ascending.1;
      };
    }

front : (rows : List (Subject × List Finding)) (findings : List SubjectFinding) → AreRowsOf rows findings → IsFront rows findings
front rows findings good = subst (IsFront rows) (sym good.flat) (front_of rows good.some good.ascending)

-- ---- row by row
-- some rows are made of the findings that were passed, and the others are those of the rest
pub record IsPartly (all made : List (Subject × List Finding)) (rest : List SubjectFinding) : Type 0 where
  pub left : List (Subject × List Finding)
  pub whole : made ++ left ≡ all
  pub good : AreRowsOf left rest

pub one_more : (all made more : List (Subject × List Finding)) (rest behind : List SubjectFinding) → IsPartly all made rest → more ≡ made ++ front_row rest
    → behind ≡ drop (front_length rest) rest → IsPartly all more behind
one_more all made more rest behind is pushed cut =
    let first = front is.left rest is.good in
    record {
      left = first.behind;
      whole = ap (λ rows. rows ++ first.behind) pushed ∙ append_assoc made (front_row rest) first.behind
          ∙ ap (λ rows. made ++ rows) (sym first.split) ∙ is.whole;
      good = subst (AreRowsOf first.behind) (sym cut) first.good;
    }

none_left : (left : List (Subject × List Finding)) → AllByRecursion HasSome left → [] ≡ findings_of_rows left → left ≡ []
none_left [] some is = refl
none_left ((s, []) ∷ left) some is = absurd (omega (arith, some.0))
none_left ((s, g ∷ gs) ∷ left) some is = absurd cc

pub all_made : (all made : List (Subject × List Finding)) (rest : List SubjectFinding) → IsPartly all made rest → rest ≡ [] → made ≡ all
all_made all made rest is end =
    sym (append_nil made) ∙ ap (λ rows. made ++ rows) (sym (none_left is.left is.good.some (sym end ∙ is.good.flat))) ∙ is.whole
  where
    append_nil : (rows : List (Subject × List Finding)) → rows ++ [] ≡ rows
    append_nil [] = refl
    append_nil (row ∷ rows) = ap (λ others. row ∷ others) (append_nil rows)

-- ---- the findings of a cell
some_when : (fs : List Finding) → nat_lt 0 (length fs) ≡ true → 0 < length fs
some_when fs e = grind (arith, nat_tests)

have_some : (c : Cell) → AllByRecursion HasSome (all_findings c)
unfolding all_findings
have_some c =
    let judged = map (λ s. (s, findings_of_subject c s)) (subjects c) in
    each_weaker (λ (row : Subject × List Finding). nat_lt 0 (length row.1) ≡ true) HasSome (λ row e. some_when row.1 e) _
    (recursion_from_All (λ (row : Subject × List Finding). nat_lt 0 (length row.1) ≡ true) _
    (filter_passes (λ (row : Subject × List Finding). nat_lt 0 (length row.1)) judged))

pub all_are_rows : (c : Cell) → IsVerdictTable c (all_findings c) → AreRowsOf (all_findings c) (findings_of_rows (all_findings c))
all_are_rows c table = record { flat = refl; some = have_some c; ascending = table.ascending }

-- what is made of the findings of a cell is all its findings
pub all_are_made : (c : Cell) (found given : List SubjectFinding) (made : List (Subject × List Finding)) → IsVerdictTable c (all_findings c) → given ≡ found
    → found ≡ findings_of_rows (all_findings c) → ((rows : List (Subject × List Finding)) → AreRowsOf rows given → made ≡ rows) → made ≡ all_findings c
all_are_made c found given made table same flat makes = makes (all_findings c) (subst (AreRowsOf (all_findings c)) (sym (same ∙ flat)) (all_are_rows c table))
