-- The part of a report that tells of a cell: how many records it has, how many findings, and each finding. This
-- project's own text.
use Rattle.std.specs.Prelude.{ℕ, List, [], ◌∷◌, ◌++◌, length, map, take, sum_by, codes}
use Rattle.std.specs.Fmt.{decimal}
use Rattle.std.specs.List.{flat_map}
use Rattle.s57_types.specs.declared.name.Kind.{Kind}
use Rattle.s57_types.specs.declared.name.Kind.TheVariants.{Vi, Vc, Ve, Fe, Head}
use Rattle.s57_types.specs.declared.name.Lnam.{Lnam}
use Rattle.s57_types.specs.declared.name.RecName.{RecName}
use Rattle.s57_types.specs.declared.cell.Cell.{Cell}
use Rattle.cell_spec.specs.declared.finding.Finding.{Finding}
use Rattle.cell_spec.specs.declared.key.Subject.{Subject}
use Rattle.cell_spec.specs.declared.key.Subject.TheVariants.{Rec, Side, Pair, Ident}
use Rattle.rule_spec.specs.Kinds.{kind_name, number_count}
use Rattle.rule_spec.specs.Findings.{all_findings}
use Rattle.text_spec.specs.Lines.{line}

abbrev pub kind_word : Kind → List ℕ
kind_word Vi = codes "vi"
kind_word Vc = codes "vc"
kind_word Ve = codes "ve"
kind_word Fe = codes "fe"
kind_word Head = codes "head"

abbrev pub name_words : RecName → List (List ℕ)
name_words n = kind_word n.kind ∷ decimal n.id ∷ []

-- a feature object identifier: AGEN, FIDN and FIDS
abbrev pub identity_words : Lnam → List (List ℕ)
identity_words l = decimal l.agen ∷ decimal l.fidn ∷ decimal l.fids ∷ []

-- a subject: its sort, and the others of its words
abbrev pub subject_word : Subject → List ℕ
subject_word (Rec n) = codes "rec"
subject_word (Side n) = codes "side"
subject_word (Pair a b) = codes "pair"
subject_word (Ident l) = codes "ident"

abbrev pub subject_words : Subject → List (List ℕ)
subject_words (Rec n) = name_words n
subject_words (Side n) = name_words n
subject_words (Pair a b) = name_words a ++ name_words b
subject_words (Ident l) = identity_words l

-- the name of the kind, and the numbers that it has
abbrev pub finding_words : Finding → List (List ℕ)
finding_words f = kind_name f.kind ∷ map decimal (take (number_count f.kind) f.nums)

abbrev pub finding_line : Subject → Finding → List ℕ
finding_line s f = line (subject_word s) (subject_words s ++ finding_words f)

abbrev pub row_lines : Subject × List Finding → List ℕ
row_lines row = flat_map (finding_line row.0) row.1

abbrev pub count_line : Cell → List ℕ
count_line c = line (codes "cell") (codes "vi" ∷ decimal (length c.vi) ∷ codes "vc" ∷ decimal (length c.vc) ∷ codes "ve" ∷ decimal
    (length c.ve) ∷ codes "fe" ∷ decimal (length c.fe) ∷ [])

abbrev pub total_line : ℕ → List ℕ
total_line total = line (codes "findings") (decimal total ∷ [])

abbrev pub total_of : List (Subject × List Finding) → ℕ
total_of = sum_by (λ (row : Subject × List Finding). length row.1)

-- the text of a cell with these findings
unfoldable pub text_with : Cell → List (Subject × List Finding) → List ℕ
text_with c rows = count_line c ++ total_line (total_of rows) ++ flat_map row_lines rows ++ line (codes "end") []

-- the text of a cell with all its findings
abbrev pub cell_text : Cell → List ℕ
cell_text c = text_with c (all_findings c)
