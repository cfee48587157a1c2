use Rattle.std.proofs.Common.{◌∙◌, ap, arith, length, sum_by, take_all}
use Rattle.s57_types.specs.Subfield.{row_bytes}
use Rattle.s57_types.specs.FieldRows.{partner_row}
use Rattle.record_fit.specs.Lengths.{saturated}
use Rattle.record_fit.proofs.RowLengths.{partner_row_length, counted_one_more, counted_rows}
use Rattle.record_fit.proofs.length.partners_length.Goals as goal

pub loop-partner-preserved : goal.loop-partner-preserved
loop-partner-preserved c =
    let partner = c.partner-item.result in
    counted_one_more partner_row c.args.partners.now c.loop-partner.partner-index partner c.loop-partner.bytes c.saturating_add-bytes.result
    c.loop-partner-test.true c.partner-item.is c.loop-partner.invariant
    (omega (arith, partner_row_length partner, c.saturating_add-bytes.ensures, c.saturating_add.ensures, c.len.ensures))

pub returns : goal.returns
returns c =
    let partners = c.args.partners.now in
    let whole = take_all c.loop-partner.partner-index partners c.loop-partner-test.false in
    c.terminated.ensures
    ∙ counted_rows 0 partner_row (λ p. omega (arith, partner_row_length p)) partners c.loop-partner.bytes
    (c.loop-partner.invariant ∙ ap (λ ps. saturated (sum_by (λ p. length (row_bytes (partner_row p))) ps)) whole)
