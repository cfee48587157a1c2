use Rattle.std.proofs.Common.{◌≡◌, ◌++◌, List, length}
use Rattle.std.specs.List.{flat_map}
use Rattle.box_tree.specs.declared.leaf.Leaf.{Leaf}
use Rattle.cell_findings.specs.Cut.{subjects_in}
use Rattle.cell_findings.specs.Near.{pairs_near}
use Rattle.cell_findings.proofs.block.push_pair_blocks.Given as goal

abbrev pub invariant-loop-rest : goal.invariant-loop-rest
invariant-loop-rest l =
    (tree : List Leaf) → subjects_in tree l.cut.items ++ flat_map (pairs_near tree) l.rest
    ≡ subjects_in tree l.initial.cut.items ++ flat_map (pairs_near tree) l.leaves

abbrev pub decreases-loop-rest : goal.decreases-loop-rest
decreases-loop-rest l = length l.rest
