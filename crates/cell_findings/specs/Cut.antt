-- What is judged, cut into blocks. This project's own.
use Rattle.std.specs.Prelude.{◌≡◌, All, IsPermutation, List, IsTrue, filter, map}
use Rattle.std.specs.List.{flat_map}
use Rattle.s57_types.specs.declared.cell.Cell.{Cell}
use Rattle.cell_spec.specs.declared.key.Subject.{Subject}
use Rattle.cell_spec.specs.declared.key.Subject.TheVariants.{Rec, Side, Ident}
use Rattle.rule_spec.specs.Findings.{is_subject}
use Rattle.box_tree.specs.declared.leaf.Leaf.{Leaf}
use Rattle.rule_spec.specs.Records.{is_edge_name}
use Rattle.cell_findings.specs.Judged.{identities_in, is_part_name, names_in, subject_findings}
use Rattle.cell_findings.specs.Near.{leaves_in, pairs_near}
use Rattle.cell_findings.specs.declared.block.Block.{Block}
use Rattle.cell_findings.specs.declared.block.Judged.{Judged}
use Rattle.cell_findings.specs.declared.block.Block.TheVariants.{Records, Sides, Pairs, Identities}
use Rattle.cell_findings.specs.declared.list.SubjectFinding.{SubjectFinding}

-- the subjects of a block, where these are all leaves
abbrev pub block_subjects : List Leaf → Block → List Subject
block_subjects tree (Records names) = map Rec names.now
block_subjects tree (Sides edges) = map Side edges.now
block_subjects tree (Pairs leaves) = flat_map (pairs_near tree) leaves.now
block_subjects tree (Identities identities) = map Ident identities.now

-- the subjects of blocks, one block after the other
abbrev pub subjects_in : List Leaf → List Block → List Subject
subjects_in tree blocks = flat_map (block_subjects tree) blocks

-- all in a block are subjects of a cell
abbrev pub AreSubjects : Cell → List Leaf → Block → Type 0
AreSubjects c tree b = All (λ (s : Subject). IsTrue (is_subject c s)) (block_subjects tree b)

-- the findings about the subjects of a block
abbrev pub block_findings : Cell → List Leaf → Block → List SubjectFinding
block_findings c tree b = flat_map (subject_findings c) (block_subjects tree b)

-- this is what of a cell is judged
pub record IsJudgedOf (c : Cell) (judged : Judged) : Type 0 where
  pub names : judged.names ≡ names_in c
  pub edges : judged.edges.items ≡ filter is_edge_name (names_in c)
  pub identities : judged.identities.items ≡ identities_in c
  pub leaves : judged.placed.leaves.items ≡ leaves_in c (filter is_part_name (names_in c))
  pub tree : IsPermutation judged.placed.leaves.items judged.tree
