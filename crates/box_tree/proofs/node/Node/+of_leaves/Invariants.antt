use Rattle.std.proofs.Common.{length}
use Rattle.box_tree.proofs.node.Node.+of_leaves.Given as goal

abbrev pub decreases-of_leaves : goal.decreases-of_leaves
decreases-of_leaves l = length l.leaves.now
