use Rattle.std.proofs.Common.{◌≡◌, ◌++◌, take}
use Rattle.s57_types.specs.Subfield.{row_bytes}
use Rattle.s57_fields.specs.Spelling.{row_of}
use Rattle.s57_fields.proofs.spell.put_row.Given as goal

abbrev pub invariant-loop-value : goal.invariant-loop-value
invariant-loop-value l = l.out.items ≡ l.initial.out.items ++ row_bytes (row_of (take l.value-index l.row))
