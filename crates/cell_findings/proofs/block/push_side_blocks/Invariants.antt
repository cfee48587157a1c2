use Rattle.std.proofs.Common.{◌≡◌, ◌++◌, List, length, map}
use Rattle.cell_spec.specs.declared.key.Subject.TheVariants.{Side}
use Rattle.box_tree.specs.declared.leaf.Leaf.{Leaf}
use Rattle.cell_findings.specs.Cut.{subjects_in}
use Rattle.cell_findings.proofs.block.push_side_blocks.Given as goal

abbrev pub invariant-loop-rest : goal.invariant-loop-rest
invariant-loop-rest l = (tree : List Leaf) → subjects_in tree l.cut.items ++ map Side l.rest ≡ subjects_in tree l.initial.cut.items ++ map Side l.edges

abbrev pub decreases-loop-rest : goal.decreases-loop-rest
decreases-loop-rest l = length l.rest
