use Rattle.std.proofs.Common.{◌≡◌, ◌++◌, ◌∙◌, ap, subst, sym}
use Rattle.box_tree.specs.Leaves.{names_meeting}
use Rattle.box_tree.specs.Nodes.{AreHeld, leaves_of}
use Rattle.box_tree.proofs.Holding.{both_asked, unasked}
use Rattle.box_tree.proofs.node.Node.+push_meeting.Goals as goal
use Rattle.box_tree.proofs.node.Node.+push_meeting.Goals.{After-are_disjoint-in-Halves, else-not-are_disjoint}
use Rattle.box_tree.proofs.node.Node.+push_meeting.Goals.{then-not-are_disjoint+in_ok-push_meeting-in-Halves}

-- what the front half adds
first_asked : (t : _) → (c : After-are_disjoint-in-Halves t)
    → c.if-not-are_disjoint.out.items ≡ c.args.out.now.items ++ names_meeting c.args.around (leaves_of c.in-Halves.front.value)
first_asked t c =
    let held = subst AreHeld c.in-Halves.is c.requires in
    elim c.if-not-are_disjoint.branch [
      | then-not-are_disjoint+in_ok-push_meeting-in-Halves w ↦
          let out = w.out-is in let asked = w.in_ok-push_meeting-in-Halves.ensures in let half = w.deref-then-not-are_disjoint.ensures in cc
      | else-not-are_disjoint w ↦ ap (λ v. v.items) w.out-is
          ∙ unasked _ c.args.around _ _ held.0 (sym w.if-not-are_disjoint.ensures)
    ]

pub returns-in_ok-push_meeting-in-Halves-2 : goal.returns-in_ok-push_meeting-in-Halves-2
returns-in_ok-push_meeting-in-Halves-2 t c =
    let around = c.args.around in
    let first = first_asked t (goal.at.returns-in_ok-push_meeting-in-Halves-2 t c).After-are_disjoint-in-Halves in
    let second = let asked = c.in_ok-push_meeting-in-Halves-2.ensures in let half = c.deref-then-not-are_disjoint-2.ensures in
    asked ∙ ap (λ node. c.if-not-are_disjoint.out.items ++ names_meeting around (leaves_of node)) half in
    both_asked _ _ _ around _ _ first second ∙ ap (λ node. c.args.out.now.items ++ names_meeting around (leaves_of node)) (sym c.in-Halves.is)

pub returns-else-not-are_disjoint-2 : goal.returns-else-not-are_disjoint-2
returns-else-not-are_disjoint-2 t c =
    let around = c.args.around in
    let held = subst AreHeld c.in-Halves.is c.requires in
    let first = first_asked t (goal.at.returns-else-not-are_disjoint-2 t c).After-are_disjoint-in-Halves in
    both_asked _ _ _ around _ _ first (unasked _ around _ _ held.2 (sym c.if-not-are_disjoint-2.ensures))
    ∙ ap (λ node. c.args.out.now.items ++ names_meeting around (leaves_of node)) (sym c.in-Halves.is)
