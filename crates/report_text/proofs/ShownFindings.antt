-- The lines of the findings that a command shows.
use Rattle.std.proofs.Common.{◌≡◌, ℕ, List, [], ◌∷◌, ◌++◌, take, map, refl, sym, ap, ◌∙◌}
use Rattle.std.specs.List.{flat_map}
use Rattle.std.specs.Prelude.{codes}
use Rattle.std.specs.Fmt.{decimal}
use Rattle.std.proofs.lemmas.List.{take-map}
use Rattle.std.proofs.lemmas.List.Folds.{flat_map-map}
use Rattle.s57_types.specs.declared.cell.Cell.{Cell}
use Rattle.cell_spec.specs.declared.finding.Finding.{Finding}
use Rattle.cell_spec.specs.declared.key.Subject.{Subject}
use Rattle.rule_spec.specs.Findings.{all_findings, finding_total}
use Rattle.text_spec.specs.CellText.{finding_line}
use Rattle.text_spec.specs.Lines.{line}
use Rattle.cell_findings.specs.Rows.{findings_of_row, findings_of_rows, line_of, with_subject}
use Rattle.cell_findings.specs.declared.list.SubjectFinding.{SubjectFinding}
use Rattle.history_spec.specs.ReportText.{list_lines}

row_lines_of : (s : Subject) (fs : List Finding) → map (finding_line s) fs ≡ map line_of (map (with_subject s) fs)
row_lines_of s [] = refl
row_lines_of s (f ∷ fs) = ap (λ rest. finding_line s f ∷ rest) (row_lines_of s fs)

mapped : {X Y : Type 0} (f : X → Y) (xs ys : List X) → map f (xs ++ ys) ≡ map f xs ++ map f ys
mapped f [] ys = refl
mapped f (x ∷ xs) ys = ap (λ rest. f x ∷ rest) (mapped f xs ys)

-- the lines of rows are those of their findings
lines_of_rows : (rows : List (Subject × List Finding)) → flat_map (λ (row : Subject × List Finding). map (finding_line row.0) row.1) rows ≡
    map line_of (findings_of_rows rows)
lines_of_rows [] = refl
lines_of_rows (row ∷ rows) =
    (λ i. row_lines_of row.0 row.1 i ++ lines_of_rows rows i) ∙ sym (mapped line_of (findings_of_row row) (findings_of_rows rows))

shown_text : (shown : ℕ) (rows : List (Subject × List Finding))
    → flat_map line_of (take shown (findings_of_rows rows)) ≡ flat_map (λ l. l)
    (take shown (flat_map (λ (row : Subject × List Finding). map (finding_line row.0) row.1) rows))
shown_text shown rows =
    sym (flat_map-map (λ l. l) line_of (take shown (findings_of_rows rows)))
    ∙ ap (flat_map (λ l. l)) (sym (take-map line_of shown (findings_of_rows rows)) ∙ ap (take shown) (sym (lines_of_rows rows)))

abbrev headed : ℕ → ℕ → List ℕ
headed base total = line (codes "list") (codes "seen" ∷ decimal base ∷ codes "findings" ∷ decimal total ∷ [])

-- the lines of the first findings of all
pub list_shown : (base shown total : ℕ) (c : Cell) (rows : List (Subject × List Finding)) (found : List SubjectFinding)
    (start first whole : List ℕ) → total ≡ finding_total c → rows ≡ all_findings c
    → found ≡ take shown (findings_of_rows rows) → start ≡ [] → first ≡ start ++ headed base total → whole ≡ first ++ flat_map line_of found
    → whole ≡ list_lines base shown c
list_shown base shown total c rows found start first whole is_total is_rows is_found none is_first is_whole =
    is_whole
    ∙ (λ i. (is_first ∙ ap (λ text. text ++ headed base total) none) i ++ flat_map line_of (is_found i))
    ∙ (λ i. headed base (is_total i) ++ flat_map line_of (take shown (findings_of_rows (is_rows i))))
    ∙ ap (λ text. headed base (finding_total c) ++ text)
    (shown_text shown (all_findings c))
