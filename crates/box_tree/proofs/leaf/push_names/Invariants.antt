use Rattle.std.proofs.Common.{◌≡◌, ◌++◌, take}
use Rattle.box_tree.specs.Leaves.{names_meeting}
use Rattle.box_tree.proofs.leaf.push_names.Given as goal

abbrev pub invariant-loop-leaf : goal.invariant-loop-leaf
invariant-loop-leaf l = l.out.items ≡ l.initial.out.items ++ names_meeting l.around (take l.leaf-index l.leaves)
