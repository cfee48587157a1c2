use Rattle.std.proofs.Common.{◌≡◌, ◌++◌, take}
use Rattle.box_tree.specs.Leaves.{leaves_meeting}
use Rattle.box_tree.proofs.leaf.push_leaves.Given as goal

abbrev pub invariant-loop-leaf : goal.invariant-loop-leaf
invariant-loop-leaf l = l.out.items ≡ l.initial.out.items ++ leaves_meeting l.around (take l.leaf-index l.leaves)
