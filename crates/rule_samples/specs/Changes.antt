-- Edits of small cells, with what they touch and what is judged anew after them.
use Rattle.std.specs.Prelude.{◌≡◌, true, false, List, [], ◌∷◌, length, map, filter}
use Rattle.s57_types.specs.declared.cell.Cell.{Cell}
use Rattle.s57_types.specs.declared.head.Level.TheVariants.{One}
use Rattle.s57_types.specs.Heads.{head_name}
use Rattle.cell_spec.specs.declared.edit.Edit.{Edit}
use Rattle.cell_spec.specs.declared.edit.Edit.TheVariants.{Add, Set, Del}
use Rattle.cell_spec.specs.declared.finding.Finding.{Finding}
use Rattle.cell_spec.specs.declared.finding.Row.{Row}
use Rattle.cell_spec.specs.declared.key.Key.{Key}
use Rattle.cell_spec.specs.declared.key.Key.TheVariants.{Name, Refs, Foid}
use Rattle.cell_spec.specs.declared.key.Subject.{Subject}
use Rattle.cell_spec.specs.declared.key.Subject.TheVariants.{Rec, Side, Pair, Ident}
use Rattle.cell_spec.specs.Edits.{apply_edits, is_applicable, touched_keys}
use Rattle.cell_spec.specs.Lookup.{all_records, name_of}
use Rattle.rule_spec.specs.Affected.{change_by, considered, is_affected, affected_list, RowsAreExact, lookup_budget}
use Rattle.rule_spec.specs.Findings.{is_subject, subjects, finding}
use Rattle.rule_spec.specs.Reads.{read_set}
use Rattle.sample_cells.specs.Parts.{vc, ve, fe, lnam, at, node, edge}
use Rattle.sample_cells.specs.Samples.{grid, closed_edge, used_by_line, accented_line, at_level, self_named, node_on_line}

-- a new node goes last, a replaced one keeps its place, and the list closes up where one is deleted
abbrev pub EditsKeepPlaces : Type 0
EditsKeepPlaces =
    (map name_of (apply_edits (Add (node 9 (at 5 5)) ∷ Set (node 2 (at 7 7)) ∷ Add (node 8 (at 6 6)) ∷ Del (vc 3) ∷ []) grid).vc ≡
    vc 1 ∷ vc 2 ∷ vc 4 ∷ vc 9 ∷ vc 8 ∷ []) ×
    (map (λ edit. is_applicable (edit ∷ []) grid) (Add (node 1 (at 0 0)) ∷ Add (node 9 (at 0 0)) ∷ Set (node 9 (at 0 0)) ∷ Set
    (node 1 (at 0 0)) ∷ Del (vc 9) ∷ Del (vc 1) ∷ at_level One ∷ Del head_name ∷ [])
    ≡ false ∷ true ∷ false ∷ true ∷ false ∷ true ∷ true ∷ false ∷ []) ×
    ((apply_edits (at_level One ∷ []) grid).head.aall ≡ 1) ×
    (length (all_records (apply_edits (at_level One ∷ []) grid)) ≡ length (all_records grid))

abbrev pub ReadsAreAsListed : Type 0
ReadsAreAsListed =
    (read_set self_named (Rec (ve 1)) ≡ Name (ve 1) ∷ []) ×
    (read_set grid (Rec (vc 1)) ≡ Name (vc 1) ∷ []) ×
    (read_set grid (Rec (ve 1)) ≡ Name (vc 1) ∷ Name (vc 2) ∷ Name (ve 1) ∷ []) ×
    (read_set accented_line (Rec (fe 1)) ≡ Name (ve 1) ∷ Name (fe 1) ∷ Name head_name ∷ []) ×
    (read_set grid (Rec (fe 1)) ≡ Name (vc 1) ∷ Name (vc 2) ∷ Name (vc 3) ∷ Name (vc 4) ∷ Name (ve 1) ∷ Name (ve 2) ∷ Name
    (ve 3) ∷ Name (ve 4) ∷ Name (fe 1) ∷ Name head_name ∷ []) ×
    (read_set grid (Side (ve 1)) ≡ Name (ve 1) ∷ Name (fe 1) ∷ Name (fe 2) ∷ Refs (ve 1) ∷ []) ×
    (read_set grid (Pair (vc 1) (ve 1)) ≡ Name (vc 1) ∷ Name (vc 2) ∷ Name (ve 1) ∷ []) ×
    (read_set grid (Ident (lnam 7)) ≡ Foid (lnam 7) ∷ []) ×
    (read_set grid (Rec (fe 7)) ≡ Name (fe 7) ∷ [])

abbrev pub TouchedAreAsListed : Type 0
TouchedAreAsListed =
    (touched_keys (used_by_line ∷ []) closed_edge ≡ Name (fe 1) ∷ Refs (ve 1) ∷ Foid (lnam 1) ∷ []) ×
    (touched_keys (Set (edge 1 1 3 []) ∷ []) grid ≡ Name (ve 1) ∷ Refs (vc 1) ∷ Refs (vc 2) ∷ Refs (vc 3) ∷ []) ×
    (touched_keys (Del (fe 2) ∷ []) grid ≡ Name (fe 2) ∷ Refs (ve 1) ∷ Refs (ve 2) ∷ Refs (ve 3) ∷ Refs (ve 4) ∷ Foid (lnam 2) ∷ []) ×
    (touched_keys (at_level One ∷ []) grid ≡ Name head_name ∷ []) ×
    (touched_keys (at_level One ∷ Set (node 3 (at 5 5)) ∷ []) grid ≡ Name (vc 3) ∷ Name head_name ∷ [])

-- the line feature that clears an orphan touches the side of the edge, though the edge isn't edited
abbrev pub AffectedAreAsListed : Type 0
AffectedAreAsListed =
    (affected_list (change_by (used_by_line ∷ []) closed_edge) ≡ Rec (fe 1) ∷ Side (ve 1) ∷ Ident (lnam 1) ∷ []) ×
    (lookup_budget (used_by_line ∷ []) closed_edge (Rec (fe 1) ∷ Side (ve 1) ∷ Ident (lnam 1) ∷ []) ≡ 52) ×
    (affected_list (change_by (Set (node 3 (at 5 5)) ∷ []) node_on_line) ≡ Rec (vc 3) ∷ Pair (vc 1) (vc 3) ∷ Pair (vc 2) (vc 3) ∷ Pair (vc 3) (ve 1) ∷ [])

-- the subjects of the edited cell that are affected, ascending
abbrev pub affected_subjects : List Edit → Cell → List Subject
affected_subjects edits c = let ch = change_by edits c in filter (is_affected ch) (subjects ch.after)

-- two nodes of a line moved: neither its other node nor its side is affected, and a pair stands where the first record of it brings it
abbrev pub moved_nodes : List Edit
moved_nodes = Set (node 1 (at 0 1)) ∷ Set (node 2 (at 0 9)) ∷ []

abbrev pub AffectedAreTheSet : Type 0
AffectedAreTheSet =
    (
    affected_list (change_by moved_nodes node_on_line)
    ≡ Rec (vc 1) ∷ Rec (ve 1) ∷ Rec (vc 2) ∷ Pair (vc 1) (vc 2) ∷ Pair (vc 1) (vc 3) ∷ Pair (vc 1) (ve 1) ∷ Pair (vc 2) (ve 1) ∷ Pair
    (vc 3) (ve 1) ∷ Pair (vc 2) (vc 3) ∷ []
    ) ×
    (
    affected_subjects moved_nodes node_on_line
    ≡ Rec (vc 1) ∷ Rec (vc 2) ∷ Rec (ve 1) ∷ Pair (vc 1) (vc 2) ∷ Pair (vc 1) (vc 3) ∷ Pair (vc 1) (ve 1) ∷ Pair (vc 2) (vc 3) ∷ Pair
    (vc 2) (ve 1) ∷ Pair (vc 3) (ve 1) ∷ []
    ) ×
    (affected_subjects (used_by_line ∷ []) closed_edge ≡ Rec (fe 1) ∷ Side (ve 1) ∷ Ident (lnam 1) ∷ []) ×
    (affected_subjects (Set (node 3 (at 5 500000)) ∷ []) node_on_line ≡ Rec (vc 3) ∷ Pair (vc 1) (vc 3) ∷ Pair (vc 2) (vc 3) ∷ Pair (vc 3) (ve 1) ∷ []) ×
    (affected_subjects (Add (node 4 (at 5 500000)) ∷ []) node_on_line ≡ Rec (vc 4) ∷ []) ×
    (affected_subjects (Del (vc 3) ∷ []) node_on_line ≡ [])

abbrev pub row : Subject → List Finding → List Key → Row
row s findings reads = record { subject = s; findings = findings; reads = reads }

-- a head's edit affects each feature, whatever its texts; the head itself is looked at by nobody
abbrev pub HeadEditsAffectFeatures : Type 0
HeadEditsAffectFeatures =
    (considered (change_by (at_level One ∷ []) grid) ≡ Rec (fe 1) ∷ Rec (fe 2) ∷ []) ×
    (affected_list (change_by (at_level One ∷ []) grid) ≡ Rec (fe 1) ∷ Rec (fe 2) ∷ []) ×
    (affected_subjects (at_level One ∷ []) grid ≡ Rec (fe 1) ∷ Rec (fe 2) ∷ []) ×
    (affected_list (change_by (at_level One ∷ []) node_on_line) ≡ []) ×
    (is_subject grid (Rec head_name) ≡ false) ×
    RowsAreExact (at_level One ∷ []) accented_line (row (Rec (fe 1)) [] (Name (ve 1) ∷ Name (fe 1) ∷ Name head_name ∷ []) ∷ [])

-- the rows of a node that is moved along an edge, in another order than that in which they are judged
abbrev pub moved_rows : List Row
moved_rows =
    row (Pair (vc 3) (ve 1)) (finding 11 (1 ∷ []) ∷ []) (Name (vc 1) ∷ Name (vc 2) ∷ Name (vc 3) ∷ Name (ve 1) ∷ []) ∷
    row (Pair (vc 2) (vc 3)) [] (Name (vc 2) ∷ Name (vc 3) ∷ []) ∷ row (Pair (vc 1) (vc 3)) [] (Name (vc 1) ∷ Name (vc 3) ∷ []) ∷ row
    (Rec (vc 3)) [] (Name (vc 3) ∷ []) ∷ []

-- those rows, the orphan that a deletion leaves, and no row where the cell doesn't take the edit
abbrev pub RowsAreAsListed : Type 0
RowsAreAsListed =
    RowsAreExact (Set (node 3 (at 0 7)) ∷ []) node_on_line moved_rows ×
    RowsAreExact (Del (fe 1) ∷ []) (apply_edits (used_by_line ∷ []) closed_edge)
    (row (Side (ve 1)) (finding 21 [] ∷ []) (Name (ve 1) ∷ Refs (ve 1) ∷ []) ∷ []) ×
    RowsAreExact (Del (vc 9) ∷ []) closed_edge []
