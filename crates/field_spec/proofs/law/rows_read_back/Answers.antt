use Rattle.std.proofs.Common.{◌≡◌, ◌==◌, ◌&&◌, true, nat_le, refl, arith}
use Rattle.std.proofs.lemmas.Bool.Decides.{nat_tests}
use Rattle.s57_types.specs.FieldRows.{number_forms, dsid_forms, dssi_forms, dspm_forms, frid_forms, foid_forms, vrid_forms, number_row, dsid_row, dssi_row}
use Rattle.s57_types.specs.FieldRows.{dspm_row, frid_row, foid_row, vrid_row}
use Rattle.field_spec.specs.Contents.{number_content, dsid_content, dssi_content, dspm_content, frid_content, foid_content, vrid_content, number_in, any_row}
use Rattle.field_spec.specs.Contents.{dsid_value, dssi_value, dspm_value, frid_value, lnam_in, vrid_value, has_good_levels, names_a_vector}
use Rattle.field_spec.proofs.Written.{row_written, dssi_value-row, vrid_has_value}
use Rattle.field_spec.proofs.law.rows_read_back.Goals as goal

pub returns : goal.returns
unfolding number_content dsid_content dssi_content dspm_content frid_content foid_content vrid_content
returns c = record {
  number = λ n fits. row_written (λ row. number_in row 0) number_forms any_row (number_row n) n
      (record { fit = record { is_row = record { forms_are = refl; each = (fits, tt) }; has_plain_texts = refl }; is_good = refl; value_is = refl });
  dsid = λ d fit. row_written dsid_value dsid_forms (λ row. number_in row 0 == 10) (dsid_row d) d (record { fit = fit; is_good = refl; value_is = refl });
  dssi = λ d fit aall nall. let levels : (nat_le d.aall 1 && nat_le d.nall 2) ≡ true = grind (arith, nat_tests) in
      row_written dssi_value dssi_forms has_good_levels (dssi_row d) d (record { fit = fit; is_good = levels; value_is = dssi_value-row d fit.is_row });
  dspm = λ d fit. row_written dspm_value dspm_forms (λ row. number_in row 0 == 20) (dspm_row d) d (record { fit = fit; is_good = refl; value_is = refl });
  frid = λ d fit. row_written frid_value frid_forms (λ row. number_in row 0 == 100) (frid_row d) d (record { fit = fit; is_good = refl; value_is = refl });
  foid = λ d fit. row_written lnam_in foid_forms any_row (foid_row d) d (record { fit = fit; is_good = refl; value_is = refl });
  vrid = λ d fit vector. row_written vrid_value vrid_forms names_a_vector (vrid_row d) d (vrid_has_value d fit vector);
}
