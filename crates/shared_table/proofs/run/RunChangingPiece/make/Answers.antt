use Rattle.row_spec.proofs.Ascending.{IsAscending-empty}
use Rattle.shared_table.proofs.run.RunChangingPiece.make.Goals as goal

pub invariant_of-result : goal.invariant_of-result
invariant_of-result g c = rw c.new.ensures.items (IsAscending-empty g.row.V.Denot g.K.Ord.cmp)
