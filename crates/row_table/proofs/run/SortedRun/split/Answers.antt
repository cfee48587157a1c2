use Rattle.row_spec.proofs.Ascending.{IsAscending-take, IsAscending-drop}
use Rattle.row_table.proofs.run.SortedRun.split.Goals as goal

pub invariant_of-self : goal.invariant_of-self
invariant_of-self g c = rw c.move_tail.ensures.from (IsAscending-take g.K.Ord.cmp _ _ c.self.invariant)

pub invariant_of-upper : goal.invariant_of-upper
invariant_of-upper g c = rw c.move_tail.ensures.to (IsAscending-drop g.K.Ord.cmp _ _ c.self.invariant)
