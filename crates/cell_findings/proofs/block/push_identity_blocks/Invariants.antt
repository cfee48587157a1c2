use Rattle.std.proofs.Common.{◌≡◌, ◌++◌, List, length, map}
use Rattle.cell_spec.specs.declared.key.Subject.TheVariants.{Ident}
use Rattle.box_tree.specs.declared.leaf.Leaf.{Leaf}
use Rattle.cell_findings.specs.Cut.{subjects_in}
use Rattle.cell_findings.proofs.block.push_identity_blocks.Given as goal

abbrev pub invariant-loop-rest : goal.invariant-loop-rest
invariant-loop-rest l = (tree : List Leaf) → subjects_in tree l.cut.items ++ map Ident l.rest ≡ subjects_in tree l.initial.cut.items ++ map Ident l.identities

abbrev pub decreases-loop-rest : goal.decreases-loop-rest
decreases-loop-rest l = length l.rest
