use Rattle.std.proofs.Common.{◌≡◌, length, take, sum_by}
use Rattle.s57_types.specs.Subfield.{row_bytes}
use Rattle.s57_types.specs.FieldRows.{partner_row}
use Rattle.record_fit.specs.Lengths.{saturated}
use Rattle.record_fit.proofs.length.partners_length.Given as goal

abbrev pub invariant-loop-partner : goal.invariant-loop-partner
invariant-loop-partner l = l.bytes ≡ saturated (sum_by (λ p. length (row_bytes (partner_row p))) (take l.partner-index l.partners))
