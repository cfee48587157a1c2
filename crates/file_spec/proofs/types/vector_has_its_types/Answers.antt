use Rattle.s57_types.specs.FieldRows.{end_forms, end_row, plane_forms, plane_row, deep_forms, deep_row}
use Rattle.file_spec.specs.RoundTrip.{HasForms}
use Rattle.file_spec.proofs.TypedCell.{of_lent, attributes_at}
use Rattle.file_spec.proofs.types.vector_has_its_types.Goals as goal

pub returns : goal.returns
returns c = let v = c.args.vector.now in record {
  identifier = c.vector_identifier_has_its_types.ensures;
  attrs = attributes_at 0 c.as_slice.result.now v.attrs c.as_slice.ensures c.all_have_their_types.ensures;
  ends = of_lent (λ e. HasForms end_forms (end_row e)) c.as_slice-2.result.now v.ends c.as_slice-2.ensures c.all_have_their_types-2.ensures;
  plane = of_lent (λ p. HasForms plane_forms (plane_row p)) c.as_slice-3.result.now v.plane c.as_slice-3.ensures c.all_have_their_types-3.ensures;
  deep = of_lent (λ p. HasForms deep_forms (deep_row p)) c.as_slice-4.result.now v.deep c.as_slice-4.ensures c.all_have_their_types-4.ensures;
}
