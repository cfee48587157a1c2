use Rattle.std.proofs.Common.{◌≡◌, ◌*◌, ◌/◌, ◌-◌, drop, length, take}
use Rattle.s57_fields.specs.RowCutting.{rows_from, with_front}
use Rattle.s57_fields.proofs.rows.written_rows.Given as goal

-- the rows before the place are written, each over its chunk's place
abbrev pub invariant-loop-place : goal.invariant-loop-place
invariant-loop-place g l = let layout = g.R.FieldRow.layout l.level in record {
  walk : with_front (take l.place l.rows.items) l.all_plain (rows_from layout (length l.body - l.place)
      (drop (l.place * g.row.N) l.body))
      ≡ rows_from layout (length l.body) l.body;
  count : length l.rows.items ≡ length l.body / g.row.N;
}
