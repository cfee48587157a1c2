use Rattle.std.proofs.Common.{◌≡◌, ◌≤◌, ◌+◌, ◌-◌, length}
use Rattle.s57_fields.specs.RowCutting.{rows_from, with_front}
use Rattle.s57_fields.proofs.rows.other_rows.Given as goal

abbrev pub invariant-loop-rest : goal.invariant-loop-rest
invariant-loop-rest g l = let layout = g.R.FieldRow.layout l.level in record {
  walk : with_front l.rows l.all_plain (rows_from layout (length l.body - length l.rows) l.rest)
      ≡ rows_from layout (length l.body) l.body;
  room : length l.rest + length l.rows ≤ length l.body;
}

abbrev pub decreases-loop-rest : goal.decreases-loop-rest
decreases-loop-rest g l = length l.rest
