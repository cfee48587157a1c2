use Rattle.std.proofs.Common.{◌≡◌, ◌++◌, take}
use Rattle.std.specs.List.{flat_map}
use Rattle.s57_types.specs.Subfield.{row_bytes}
use Rattle.s57_fields.proofs.write.put_rows.Given as goal

abbrev pub invariant-loop-row : goal.invariant-loop-row
invariant-loop-row g l = l.out.items ≡ l.initial.out.items ++ flat_map (λ y. row_bytes ((g.R.FieldRow.layout l.level).subfields y)) (take l.row-index l.rows)
