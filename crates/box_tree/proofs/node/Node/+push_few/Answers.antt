use Rattle.std.proofs.Common.{◌≡◌, ◌++◌, ◌∙◌, IsTrue, List, ap, refl, subst, sym}
use Rattle.box_tree.specs.Leaves.{leaves_meeting}
use Rattle.box_tree.specs.declared.leaf.Leaf.{Leaf}
use Rattle.box_tree.specs.Nodes.{AreHeld, leaves_of}
use Rattle.box_tree.proofs.Holding.{both_told, untold}
use Rattle.box_tree.proofs.node.Node.+push_few.Goals as goal
use Rattle.box_tree.proofs.node.Node.+push_few.Goals.{After-are_disjoint-in-Halves, then-are_disjoint, else-are_disjoint+in_ok-front_too-in-Halves}

abbrev themselves : List Leaf → List Leaf
themselves leaves = leaves

-- what the front half adds, if it adds all
first_found : (t : _) → (c : After-are_disjoint-in-Halves t) → IsTrue c.if-are_disjoint.front_too
    → c.if-are_disjoint.out.items ≡ c.args.out.now.items ++ leaves_meeting c.args.around (leaves_of c.in-Halves.front.value)
first_found t c all =
    let held = subst AreHeld c.in-Halves.is c.requires in
    elim c.if-are_disjoint.branch [
      | then-are_disjoint w ↦ ap (λ v. v.items) w.out-is ∙ untold themselves refl (λ xs ys. refl) _ c.args.around _ _ held.0 (sym w.if-are_disjoint.ensures)
      | else-are_disjoint+in_ok-front_too-in-Halves w ↦
          let told = w.in_ok-front_too-in-Halves.ensures (sym w.front_too-is ∙ all) in let half = w.deref-else-are_disjoint.ensures in
          ap (λ v. v.items) w.out-is ∙ told ∙ ap (λ node. c.args.out.now.items ++ leaves_meeting c.args.around (leaves_of node)) half
    ]

pub returns-then-are_disjoint-2 : goal.returns-then-are_disjoint-2
returns-then-are_disjoint-2 t c = λ yes.
    let around = c.args.around in
    let held = subst AreHeld c.in-Halves.is c.requires in
    let first = first_found t (goal.at.returns-then-are_disjoint-2 t c).After-are_disjoint-in-Halves c.if-not-front_too.false in
    both_told themselves refl (λ xs ys. refl) _ _ _ around _ _ first (untold themselves refl (λ xs ys. refl) _ around _ _ held.2 (sym c.if-are_disjoint-2.ensures))
    ∙ ap (λ node. c.args.out.now.items ++ leaves_meeting around (leaves_of node)) (sym c.in-Halves.is)

pub returns-in_ok-back_too-in-Halves : goal.returns-in_ok-back_too-in-Halves
returns-in_ok-back_too-in-Halves t c = λ all.
    let around = c.args.around in
    let first = first_found t (goal.at.returns-in_ok-back_too-in-Halves t c).After-are_disjoint-in-Halves c.if-not-front_too.false in
    let second = c.in_ok-back_too-in-Halves.ensures all
    ∙ ap (λ node. c.if-are_disjoint.out.items ++ leaves_meeting around (leaves_of node)) c.deref-in-Halves.ensures in
    both_told themselves refl (λ xs ys. refl) _ _ _ around _ _ first second ∙ ap (λ node. c.args.out.now.items ++ leaves_meeting around (leaves_of node)) (sym c.in-Halves.is)
