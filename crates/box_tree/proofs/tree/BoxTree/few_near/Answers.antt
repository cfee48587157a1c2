use Rattle.std.proofs.Common.{◌++◌, ◌∙◌, All, ap, refl, subst, sym}
use Rattle.box_tree.specs.Leaves.{IsNear, leaves_meeting}
use Rattle.box_tree.proofs.Holding.{held_by_box, near_each}
use Rattle.box_tree.proofs.tree.BoxTree.few_near.Goals as goal

pub returns : goal.returns
returns c =
    let tree = c.args.self.now in
    let leaves = c.args.leaves.now in
    let around = c.box_with-around.result in
    let found = c.in_ok-all.ensures c.if-not-all.false
    ∙ ap (λ ls. c.in_ok-near.near.items ++ leaves_meeting around ls) c.self.view_is
    ∙ ap (λ before. before ++ leaves_meeting around tree) c.in_ok-near.ensures.items in
    subst (λ near. All (IsNear tree near) leaves) (sym found) (near_each tree leaves around (held_by_box _ leaves leaves around c.box_with-around.ensures refl))
