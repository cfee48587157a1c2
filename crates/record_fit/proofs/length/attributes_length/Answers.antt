use Rattle.std.proofs.Common.{◌∙◌, ap, arith, length, sum_by, take_all}
use Rattle.s57_types.specs.Subfield.{row_bytes}
use Rattle.s57_types.specs.FieldRows.{attribute_row}
use Rattle.record_fit.specs.Lengths.{saturated, field_length}
use Rattle.record_fit.proofs.RowLengths.{attribute_row_length, counted_one_more, counted_rows}
use Rattle.record_fit.proofs.length.attributes_length.Goals as goal

pub loop-attr-preserved : goal.loop-attr-preserved
loop-attr-preserved c =
    let level = c.args.level in
    let attr = c.attr-item.result in
    counted_one_more (attribute_row level) c.args.attrs.now c.loop-attr.attr-index attr c.loop-attr.bytes c.saturating_add-bytes.result
    c.loop-attr-test.true c.attr-item.is c.loop-attr.invariant
    (omega (
      arith,
      attribute_row_length level attr,
      c.saturating_add-bytes.ensures,
      c.saturating_add.ensures,
      c.len.ensures,
      c.terminator_length-terminator.ensures,
    ))

pub returns : goal.returns
returns c =
    let level = c.args.level in
    let attrs = c.args.attrs.now in
    let whole = take_all c.loop-attr.attr-index attrs c.loop-attr-test.false in
    c.terminated.ensures
    ∙ ap (λ t. saturated (field_length c.loop-attr.bytes t)) c.terminator_length-terminator.ensures
    ∙ counted_rows level (attribute_row level) (λ a. omega (arith, attribute_row_length level a)) attrs c.loop-attr.bytes
    (c.loop-attr.invariant ∙ ap (λ as'. saturated (sum_by (λ a. length (row_bytes (attribute_row level a))) as')) whole)
