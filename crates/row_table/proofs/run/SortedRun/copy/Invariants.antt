use Rattle.std.proofs.Common.{take, ◌≤◌, vec_capacity}
use Rattle.row_spec.specs.Rows.{AreCopies}
use Rattle.row_table.proofs.run.SortedRun.copy.Given as goal

abbrev pub invariant-loop-key : goal.invariant-loop-key
invariant-loop-key g l = record {
  copied : AreCopies g.V.Clone.is_clone (take l.key-index l.key-items) l.rows.items;
  room : l.fn.room ≤ vec_capacity l.rows;
}
