use Rattle.std.proofs.Common.{arith, refl}
use Rattle.row_spec.proofs.Ascending.{IsAscending-empty}
use Rattle.row_table.proofs.table.RowTable.make.Goals as goal

pub invariant_of-result : goal.invariant_of-result
invariant_of-result g c = rw c.make.ensures.blocks (IsAscending-empty g.row.V.Denot g.K.Ord.cmp, refl, omega arith, λ fewer. absurd (omega arith))
