use Rattle.std.proofs.Common.{◌∙◌, ap, subst, sym}
use Rattle.box_tree.specs.Nodes.{AreHeld, leaves_of}
use Rattle.box_tree.proofs.Holding.{held_by_box}
use Rattle.box_tree.proofs.node.Node.+of_leaves.Goals as goal

pub returns-clause-held : goal.returns-clause-held
returns-clause-held t c = (
  held_by_box _ _ _ _ c.box_with-front_box.ensures (ap leaves_of c.in_ok-front.ensures.ok ∙ c.in_ok-of_leaves.ensures.leaves),
  subst AreHeld (sym c.in_ok-front.ensures.ok) c.in_ok-of_leaves.ensures.held,
  held_by_box _ _ _ _ c.box_with-back_box.ensures (ap leaves_of c.in_ok-back.ensures.ok ∙ c.in_ok-of_leaves-2.ensures.leaves),
  subst AreHeld (sym c.in_ok-back.ensures.ok) c.in_ok-of_leaves-2.ensures.held,
)
