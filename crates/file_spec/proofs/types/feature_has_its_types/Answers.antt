use Rattle.s57_types.specs.FieldRows.{partner_forms, partner_row, place_forms, place_row}
use Rattle.file_spec.specs.RoundTrip.{HasForms}
use Rattle.file_spec.proofs.TypedCell.{of_lent, attributes_at}
use Rattle.file_spec.proofs.types.feature_has_its_types.Goals as goal

pub returns : goal.returns
returns c nall = let f = c.args.feature.now in record {
  identifier = c.feature_identifier_has_its_types.ensures.identifier;
  foid = c.feature_identifier_has_its_types.ensures.object;
  attf = attributes_at 0 c.as_slice.result.now f.attf c.as_slice.ensures c.all_have_their_types.ensures;
  natf = attributes_at nall c.as_slice-2.result.now f.natf c.as_slice-2.ensures c.all_have_their_types-2.ensures;
  partners = of_lent (λ p. HasForms partner_forms (partner_row p)) c.as_slice-3.result.now f.partners c.as_slice-3.ensures c.all_have_their_types-3.ensures;
  places = of_lent (λ s. HasForms place_forms (place_row s)) c.as_slice-4.result.now f.places c.as_slice-4.ensures c.all_have_their_types-4.ensures;
}
