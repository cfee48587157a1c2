-- Connected nodes and edges whose boxes have a point in common. This project's own.
use Rattle.std.specs.Prelude.{All, IsTrue, List, [], ◌∷◌, ◌++◌, filter, map, option_to_list}
use Rattle.std.specs.List.{flat_map}
use Rattle.s57_types.specs.declared.name.RecName.{RecName}
use Rattle.s57_types.specs.declared.cell.Cell.{Cell}
use Rattle.cell_spec.specs.Ascending.{ascending}
use Rattle.cell_spec.specs.Names.{name_order}
use Rattle.cell_spec.specs.declared.key.Subject.{Subject}
use Rattle.cell_spec.specs.declared.key.Subject.TheVariants.{Pair}
use Rattle.geometry_spec.specs.declared.tile.Box4.{Box4}
use Rattle.rule_spec.specs.Findings.{is_below, is_subject}
use Rattle.finding_laws.specs.Pairs.{extent_of}
use Rattle.box_tree.specs.Leaves.{names_meeting}
use Rattle.box_tree.specs.declared.leaf.Leaf.{Leaf}
use Rattle.cell_findings.specs.Judged.{subject_findings}
use Rattle.cell_findings.specs.declared.list.SubjectFinding.{SubjectFinding}

abbrev pub leaf_with : RecName → Box4 → Leaf
leaf_with n around = record { name = n; around = around }

-- the connected node or the edge of a name with the least box around its points, if it has any
abbrev pub leaves_at : Cell → RecName → List Leaf
leaves_at c n = map (leaf_with n) (option_to_list (extent_of c n))

-- those of some names, in the order of the names
abbrev pub leaves_in : Cell → List RecName → List Leaf
leaves_in c names = flat_map (leaves_at c) names

abbrev pub leaf_names : List Leaf → List RecName
leaf_names leaves = map (λ (leaf : Leaf). leaf.name) leaves

-- the names above a leaf's own whose boxes have a point in common with its box
abbrev pub names_above : Leaf → List Leaf → List RecName
names_above leaf leaves = filter (is_below leaf.name) (names_meeting leaf.around leaves)

-- these names, ascending
abbrev pub names_near : Leaf → List Leaf → List RecName
names_near leaf leaves = ascending name_order (names_above leaf leaves)

-- each two leaves whose boxes have a point in common, the one that stands first with each behind it
abbrev pub near_pairs : List Leaf → List Subject
near_pairs [] = []
near_pairs (leaf ∷ rest) = map (Pair leaf.name) (names_meeting leaf.around rest) ++ near_pairs rest

-- a leaf's name with each name above it whose box has a point in common with its box
abbrev pub pairs_near : List Leaf → Leaf → List Subject
pairs_near tree leaf = map (Pair leaf.name) (names_near leaf tree)

-- these pairs are subjects of a cell
abbrev pub AreNearSubjects : Cell → List Leaf → Leaf → Type 0
AreNearSubjects c tree leaf = All (λ (s : Subject). IsTrue (is_subject c s)) (pairs_near tree leaf)

-- the findings about these pairs
abbrev pub leaf_findings : Cell → List Leaf → Leaf → List SubjectFinding
leaf_findings c tree leaf = flat_map (subject_findings c) (pairs_near tree leaf)
