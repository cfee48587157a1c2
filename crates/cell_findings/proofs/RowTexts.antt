-- The text of findings, by rows or one after the other.
use Rattle.std.proofs.Common.{◌≡◌, ℕ, ◌+◌, List, [], ◌∷◌, ◌++◌, length, map, refl, ap, ◌∙◌, append_assoc, length-append, arith}
use Rattle.std.specs.List.{flat_map}
use Rattle.std.specs.Prelude.{codes}
use Rattle.std.proofs.lemmas.List.Sums.{sum_by-cons}
use Rattle.std.proofs.lemmas.List.Concat.{flat_map-append}
use Rattle.s57_types.specs.declared.cell.Cell.{Cell}
use Rattle.cell_spec.specs.declared.finding.Finding.{Finding}
use Rattle.cell_spec.specs.declared.key.Subject.{Subject}
use Rattle.text_spec.specs.CellText.{finding_line, row_lines, count_line, total_line, total_of, text_with}
use Rattle.cell_findings.specs.Rows.{with_subject, findings_of_row, findings_of_rows, line_of}
use Rattle.cell_findings.specs.declared.list.SubjectFinding.{SubjectFinding}

row_texts : (s : Subject) (fs : List Finding) → flat_map line_of (map (with_subject s) fs) ≡ flat_map (finding_line s) fs
row_texts s [] = refl
row_texts s (f ∷ fs) = ap (λ text. finding_line s f ++ text) (row_texts s fs)

row_texts_all : (rows : List (Subject × List Finding)) → flat_map line_of (findings_of_rows rows) ≡ flat_map row_lines rows
row_texts_all [] = refl
row_texts_all (row ∷ rows) =
    flat_map-append line_of (findings_of_row row) (findings_of_rows rows)
    ∙ ap (λ text. text ++ flat_map line_of (findings_of_rows rows)) (row_texts row.0 row.1) ∙ ap (λ text. row_lines row ++ text) (row_texts_all rows)

row_count : (s : Subject) (fs : List Finding) → length (map (with_subject s) fs) ≡ length fs
row_count s [] = refl
row_count s (f ∷ fs) = let rest = row_count s fs in omega (arith, rest)

pub row_counts : (rows : List (Subject × List Finding)) → length (findings_of_rows rows) ≡ total_of rows
row_counts [] = refl
row_counts (row ∷ rows) =
    let joined : length (findings_of_rows (row ∷ rows)) ≡ length (findings_of_row row) + length (findings_of_rows rows) =
    length-append (findings_of_row row) (findings_of_rows rows) in
    let summed : total_of (row ∷ rows) ≡ length row.1 + total_of rows = sum_by-cons (λ (r : Subject × List Finding). length r.1) row rows in
    let first : length (findings_of_row row) ≡ length row.1 = row_count row.0 row.1 in let rest = row_counts rows in omega (arith, joined, summed, first, rest)

-- parts appended one after the other
appended : (before a b c : List ℕ) → ((before ++ a) ++ b) ++ c ≡ before ++ ((a ++ b) ++ c)
appended before a b c = ap (λ text. text ++ c) (append_assoc before a b) ∙ append_assoc before (a ++ b) c

-- the text of a cell with rows, behind another
pub text_with-rows : (before : List ℕ) (c : Cell) (rows : List (Subject × List Finding))
    → ((before ++ (count_line c ++ total_line (total_of rows))) ++ flat_map row_lines rows) ++ codes "end\n" ≡ before ++ text_with c rows
unfolding text_with
text_with-rows before c rows = appended before (count_line c ++ total_line (total_of rows)) (flat_map row_lines rows) (codes "end\n")

-- the same of findings that are those of rows
pub text_with-findings : (before : List ℕ) (c : Cell) (rows : List (Subject × List Finding)) (findings : List SubjectFinding) → findings ≡ findings_of_rows rows
    → ((before ++ (count_line c ++ total_line (length findings))) ++ flat_map line_of findings) ++ codes "end\n" ≡ before ++ text_with c rows
text_with-findings before c rows findings is =
    ap (λ (fs : List SubjectFinding). ((before ++ (count_line c ++ total_line (length fs))) ++ flat_map line_of fs) ++ codes "end\n") is
    ∙ ap (λ n. ((before ++ (count_line c ++ total_line n)) ++ flat_map line_of (findings_of_rows rows)) ++ codes "end\n") (row_counts rows)
    ∙ ap (λ text. ((before ++ (count_line c ++ total_line (total_of rows))) ++ text) ++ codes "end\n") (row_texts_all rows)
    ∙ text_with-rows before c rows
