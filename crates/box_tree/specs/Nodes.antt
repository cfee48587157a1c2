-- The leaves of a tree's nodes. This project's own.
use Rattle.std.specs.Prelude.{List, ◌++◌}
use Rattle.box_tree.specs.Leaves.{Holds}
use Rattle.box_tree.specs.declared.leaf.Leaf.{Leaf}
use Rattle.box_tree.specs.declared.node.Node.{Node}
use Rattle.box_tree.specs.declared.node.Node.TheVariants.{Few, Halves'}

-- the leaves of a node in their order: of two halves, those of the first and then those of the second. Each half stands
-- behind a pointer, p and q
abbrev pub leaves_of : Node → List Leaf
leaves_of (Few leaves) = leaves.items
leaves_of (Halves' front_box p front back_box q back) = leaves_of front ++ leaves_of back

-- the box of each half holds the boxes of all its leaves
abbrev pub AreHeld : Node → Type 0
AreHeld (Few leaves) = Unit {0}
AreHeld (Halves' front_box p front back_box q back) =
    Holds front_box (leaves_of front) × AreHeld front × Holds back_box (leaves_of back) × AreHeld back
