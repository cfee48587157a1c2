use Rattle.std.proofs.Common.{refl}
use Rattle.s57_types.specs.FieldRows.{attribute_forms, partner_forms, place_forms, end_forms, plane_forms, deep_forms, attribute_row, partner_row, place_row}
use Rattle.s57_types.specs.FieldRows.{end_row, plane_row, deep_row}
use Rattle.s57_types.specs.Fitness.{is_vector_kind}
use Rattle.s57_types.specs.declared.record.End.{End}
use Rattle.s57_types.specs.declared.record.Spot.{Spot}
use Rattle.field_spec.specs.Contents.{attribute_content, partner_content, place_content, end_content, plane_content, deep_content, any_row, names_a_vector}
use Rattle.field_spec.specs.Contents.{attribute_value, partner_value, place_value, end_value, plane_value, deep_value}
use Rattle.field_spec.proofs.Written.{rows_written, have_values, have_tested_values, attribute_value-row, attribute_rows_told, place_has_value}
use Rattle.field_spec.proofs.Written.{end_has_value}
use Rattle.field_spec.proofs.law.repeating_rows_read_back.Goals as goal

pub returns : goal.returns
unfolding attribute_content partner_content place_content end_content plane_content deep_content
returns c = record {
  attributes = λ level attrs fit. rows_written attribute_value level (attribute_forms level) any_row (attribute_row level) attrs (attribute_rows_told level)
      (have_values attribute_value (attribute_forms level) any_row (attribute_row level)
      (λ a is. record { fit = is; is_good = refl; value_is = attribute_value-row level a }) attrs fit);
  partners = λ partners fit. rows_written partner_value 0 partner_forms any_row partner_row partners (record { takes = refl; fits = refl })
      (have_values partner_value partner_forms any_row partner_row (λ p is. record { fit = is; is_good = refl; value_is = refl }) partners fit);
  places = λ places fit names. rows_written place_value 0 place_forms names_a_vector place_row places (record { takes = refl; fits = refl })
      (have_tested_values place_value place_forms names_a_vector place_row (λ (s : Spot). is_vector_kind s.to.kind) place_has_value places fit names);
  ends = λ ends fit names. rows_written end_value 0 end_forms names_a_vector end_row ends (record { takes = refl; fits = refl })
      (have_tested_values end_value end_forms names_a_vector end_row (λ (e : End). is_vector_kind e.to.kind) end_has_value ends fit names);
  plane = λ points fit. rows_written plane_value 0 plane_forms any_row plane_row points (record { takes = refl; fits = refl })
      (have_values plane_value plane_forms any_row plane_row (λ p is. record { fit = is; is_good = refl; value_is = refl }) points fit);
  deep = λ soundings fit. rows_written deep_value 0 deep_forms any_row deep_row soundings (record { takes = refl; fits = refl })
      (have_values deep_value deep_forms any_row deep_row (λ p is. record { fit = is; is_good = refl; value_is = refl }) soundings fit);
}
