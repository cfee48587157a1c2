use Rattle.std.proofs.Common.{◌≡◌, ◌∙◌, ◌+◌, length, arith}
use Rattle.s57_types.specs.Subfield.{row_bytes}
use Rattle.s57_types.specs.FieldRows.{dspm_row}
use Rattle.record_fit.specs.Lengths.{saturated}
use Rattle.record_fit.proofs.HeadLengths.{parameters_are_short, dspm_length}
use Rattle.record_fit.proofs.head_record.is_geographic_reference_short.Goals as goal

pub returns : goal.returns
returns c =
    let counted : c.parameters_length.result ≡ saturated (length (row_bytes (dspm_row c.args.dspm.now)) + 1) = omega (arith, dspm_length c.args.dspm.now) in
    c.is_within_limit.ensures ∙ parameters_are_short c.args.dspm.now c.parameters_length.result counted
