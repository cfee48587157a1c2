use Rattle.std.proofs.Common.{◌≡◌, ◌++◌, vec_len, reverse}
use Rattle.row_table.proofs.table.RowTable.from_ascending.Given as goal

abbrev pub invariant-loop-key : goal.invariant-loop-key
invariant-loop-key g l = record {
  rows : l.table.rows ++ reverse l.left.items ≡ l.fn.rows.items;
  spare : l.table.spare ≡ vec_len l.left;
}

abbrev pub decreases-loop-key : goal.decreases-loop-key
decreases-loop-key g l = vec_len l.left
