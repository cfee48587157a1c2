use Rattle.row_spec.proofs.Ascending.{IsAscending-empty}
use Rattle.shared_table.proofs.table.SharedTable.len.Goals as goal

pub returns-in-None-clause-ascending : goal.returns-in-None-clause-ascending
returns-in-None-clause-ascending g c = rw (← c.self.view_is, c.in-None.is) (IsAscending-empty g.row.V.Denot g.K.Ord.cmp)
