use Rattle.std.proofs.Common.{arith}
use Rattle.row_table.proofs.Copies.{IsAscending-copies, length-copies}
use Rattle.row_table.proofs.table.RowTable.copy.Goals as goal

pub invariant_of-result : goal.invariant_of-result
invariant_of-result g c = (
  IsAscending-copies g.V.Clone.is_clone g.K.Ord.cmp _ _ c.in_ok-copy.ensures c.self.invariant.0,
  omega (arith, c.self.invariant.1, length-copies g.V.Clone.is_clone _ _ c.in_ok-copy.ensures),
  omega (arith, c.self.invariant.2),
  λ fewer. absurd (omega arith),
)
