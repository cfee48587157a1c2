use Rattle.row_spec.proofs.Ascending.{IsAscending-empty}
use Rattle.row_table.proofs.run.SortedRun.with_room.Goals as goal

pub invariant_of-result : goal.invariant_of-result
invariant_of-result g c = rw c.in_ok-with_capacity.ensures.items (IsAscending-empty g.row.V.Denot g.K.Ord.cmp)
