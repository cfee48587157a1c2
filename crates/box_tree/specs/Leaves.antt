-- Names with boxes, and those whose boxes meet a box. This project's own.
use Rattle.std.specs.Prelude.{◌≡◌, true, Bool, List, All, filter, fold, map, not}
use Rattle.s57_types.specs.declared.name.RecName.{RecName}
use Rattle.geometry_spec.specs.Boxes.{are_disjoint}
use Rattle.geometry_spec.specs.declared.tile.Box4.{Box4}
use Rattle.line_boxes.specs.LineBoxes.{united}
use Rattle.box_tree.specs.declared.leaf.Leaf.{Leaf}

-- a leaf's box has a point in common with a box
abbrev pub meets : Box4 → Leaf → Bool
meets around leaf = not (are_disjoint around leaf.around)

-- the leaves whose boxes have a point in common with a box, in their order
abbrev pub leaves_meeting : Box4 → List Leaf → List Leaf
leaves_meeting around leaves = filter (meets around) leaves

-- the names of the leaves whose boxes have a point in common with a box, in the order of the leaves
abbrev pub names_meeting : Box4 → List Leaf → List RecName
names_meeting around leaves = map (λ (leaf : Leaf). leaf.name) (leaves_meeting around leaves)

-- the least box that holds a box and those of leaves
abbrev pub box_with : Box4 → List Leaf → Box4
box_with start leaves = fold (λ around (leaf : Leaf). united around leaf.around) start leaves

-- a box that is disjoint from this one is disjoint from the box of each leaf
abbrev pub Holds : Box4 → List Leaf → Type 0
Holds holder leaves = (other : Box4) → are_disjoint other holder ≡ true → All (λ (leaf : Leaf). are_disjoint other leaf.around ≡ true) leaves

-- among some leaves are all whose boxes have a point in common with the box of a leaf
abbrev pub IsNear : List Leaf → List Leaf → Leaf → Type 0
IsNear tree near leaf = names_meeting leaf.around near ≡ names_meeting leaf.around tree
