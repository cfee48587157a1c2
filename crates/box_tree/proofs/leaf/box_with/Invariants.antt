use Rattle.std.proofs.Common.{◌≡◌, drop}
use Rattle.box_tree.specs.Leaves.{box_with}
use Rattle.box_tree.proofs.leaf.box_with.Given as goal

abbrev pub invariant-loop-leaf : goal.invariant-loop-leaf
invariant-loop-leaf l = box_with l.around (drop l.leaf-index l.leaves) ≡ box_with l.fn.start l.leaves
