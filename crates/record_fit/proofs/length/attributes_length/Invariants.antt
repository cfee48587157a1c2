use Rattle.std.proofs.Common.{◌≡◌, length, take, sum_by}
use Rattle.s57_types.specs.Subfield.{row_bytes}
use Rattle.s57_types.specs.FieldRows.{attribute_row}
use Rattle.record_fit.specs.Lengths.{saturated}
use Rattle.record_fit.proofs.length.attributes_length.Given as goal

abbrev pub invariant-loop-attr : goal.invariant-loop-attr
invariant-loop-attr l = l.bytes ≡ saturated (sum_by (λ a. length (row_bytes (attribute_row l.level a))) (take l.attr-index l.attrs))
