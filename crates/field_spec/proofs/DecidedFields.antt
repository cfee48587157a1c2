-- Each of the fifteen fields is read as a value exactly where its bytes spell the value.
use Rattle.std.proofs.Common.{◌≡◌, ◌↔◌, ◌==◌, ◌&&◌, ◌<◌, ◌≤◌, ℕ, true, nat_le, List, map, Ok, All, refl, arith}
use Rattle.std.specs.Prelude.{ℤ}
use Rattle.std.specs.List.{AllByRecursion}
use Rattle.std.proofs.lemmas.Bool.Decides.{nat_tests}
use Rattle.s57_types.specs.FieldRows.{number_forms, dsid_forms, dssi_forms, dspm_forms, frid_forms, foid_forms, attribute_forms, partner_forms, place_forms}
use Rattle.s57_types.specs.FieldRows.{vrid_forms, end_forms, plane_forms, deep_forms, number_row, dsid_row, dssi_row, dspm_row, frid_row, foid_row}
use Rattle.s57_types.specs.FieldRows.{attribute_row, partner_row, place_row, vrid_row, end_row, plane_row, deep_row}
use Rattle.s57_types.specs.Fitness.{is_vector_kind}
use Rattle.s57_types.specs.declared.name.Lnam.{Lnam}
use Rattle.s57_types.specs.declared.record.Attr.{Attr}
use Rattle.s57_types.specs.declared.record.End.{End}
use Rattle.s57_types.specs.declared.record.Spot.{Spot}
use Rattle.s57_types.specs.declared.record.Partner.{Partner}
use Rattle.s57_types.specs.declared.field.Dsid.{Dsid}
use Rattle.s57_types.specs.declared.field.Dssi.{Dssi}
use Rattle.s57_types.specs.declared.field.Dspm.{Dspm}
use Rattle.s57_types.specs.declared.field.Frid.{Frid}
use Rattle.s57_types.specs.declared.field.Vrid.{Vrid}
use Rattle.field_spec.specs.Contents.{number_content, dsid_content, dssi_content, dspm_content, frid_content, foid_content, attribute_content}
use Rattle.field_spec.specs.Contents.{partner_content, place_content, vrid_content, end_content, plane_content, deep_content, number_in, any_row}
use Rattle.field_spec.specs.Contents.{names_a_vector, has_good_levels, dsid_value, dssi_value, dspm_value, frid_value, lnam_in, attribute_value}
use Rattle.field_spec.specs.Contents.{partner_value, place_value, vrid_value, end_value, plane_value, deep_value}
use Rattle.field_spec.specs.Spelling.{SpellsRow, SpellsRows}
use Rattle.field_spec.proofs.Decided.{row_decided, row_told, rows_decided, rows_told}
use Rattle.field_spec.proofs.Respelled.{number_respelled, dsid_respelled, dssi_respelled, dspm_respelled, frid_respelled, foid_respelled, vrid_respelled}
use Rattle.field_spec.proofs.Respelled.{attribute_respelled, partner_respelled, place_respelled, end_respelled, plane_respelled, deep_respelled}
use Rattle.field_spec.proofs.Respelled.{vector_named}
use Rattle.field_spec.proofs.Written.{dssi_value-row, attribute_value-row, attribute_rows_told, place_has_value, end_has_value, vrid_has_value}

pub number_decided : (b : List ℕ) (n : ℕ) → All (λ c. c < 256) b → (number_content b ≡ Ok n ↔ SpellsRow number_forms (number_row n) b)
unfolding number_content
number_decided b n bytes = row_told number_row (λ row. number_in row 0) number_forms any_row (λ cut is good. number_respelled cut is)
    (λ n is. record { fit = is; is_good = refl; value_is = refl }) b n bytes

pub dsid_decided : (b : List ℕ) (d : Dsid) → All (λ c. c < 256) b → (dsid_content b ≡ Ok d ↔ SpellsRow dsid_forms (dsid_row d) b)
unfolding dsid_content
dsid_decided b d bytes = row_told dsid_row dsid_value dsid_forms (λ row. number_in row 0 == 10) dsid_respelled
    (λ d is. record { fit = is; is_good = refl; value_is = refl }) b d bytes

pub dssi_decided : (b : List ℕ) (d : Dssi) → All (λ c. c < 256) b
    → (dssi_content b ≡ Ok d ↔ (SpellsRow dssi_forms (dssi_row d) b × ((d.aall ≤ 1) × (d.nall ≤ 2))))
unfolding dssi_content
dssi_decided b d bytes = row_decided dssi_row dssi_value dssi_forms has_good_levels (λ (d : Dssi). (d.aall ≤ 1) × (d.nall ≤ 2)) (record {
  respelled = λ cut is good. dssi_respelled cut is;
  passes = λ cut good. (grind (arith, nat_tests), grind (arith, nat_tests));
  valued = λ d is levels. let low : d.aall ≤ 1 = levels.0 in let also : d.nall ≤ 2 = levels.1 in
      let good : (nat_le d.aall 1 && nat_le d.nall 2) ≡ true = grind (arith, nat_tests) in
      record { fit = is; is_good = good; value_is = dssi_value-row d is.is_row };
}) b d bytes

pub dspm_decided : (b : List ℕ) (d : Dspm) → All (λ c. c < 256) b → (dspm_content b ≡ Ok d ↔ SpellsRow dspm_forms (dspm_row d) b)
unfolding dspm_content
dspm_decided b d bytes = row_told dspm_row dspm_value dspm_forms (λ row. number_in row 0 == 20) dspm_respelled
    (λ d is. record { fit = is; is_good = refl; value_is = refl }) b d bytes

pub frid_decided : (b : List ℕ) (d : Frid) → All (λ c. c < 256) b → (frid_content b ≡ Ok d ↔ SpellsRow frid_forms (frid_row d) b)
unfolding frid_content
frid_decided b d bytes = row_told frid_row frid_value frid_forms (λ row. number_in row 0 == 100) frid_respelled
    (λ d is. record { fit = is; is_good = refl; value_is = refl }) b d bytes

pub foid_decided : (b : List ℕ) (d : Lnam) → All (λ c. c < 256) b → (foid_content b ≡ Ok d ↔ SpellsRow foid_forms (foid_row d) b)
unfolding foid_content
foid_decided b d bytes = row_told foid_row lnam_in foid_forms any_row (λ cut is good. foid_respelled cut is)
    (λ d is. record { fit = is; is_good = refl; value_is = refl }) b d bytes

pub vrid_decided : (b : List ℕ) (d : Vrid) → All (λ c. c < 256) b
    → (vrid_content b ≡ Ok d ↔ (SpellsRow vrid_forms (vrid_row d) b × (is_vector_kind d.name.kind ≡ true)))
unfolding vrid_content
vrid_decided b d bytes = row_decided vrid_row vrid_value vrid_forms names_a_vector (λ (d : Vrid). is_vector_kind d.name.kind ≡ true)
    (record { respelled = vrid_respelled; passes = vector_named; valued = vrid_has_value }) b d bytes

pub attributes_decided : (level : ℕ) (b : List ℕ) (attrs : List Attr) → All (λ c. c < 256) b
    → (attribute_content level b ≡ Ok attrs ↔ SpellsRows level (attribute_forms level) (map (attribute_row level) attrs) b)
unfolding attribute_content
attributes_decided level b attrs bytes = rows_told (attribute_row level) attribute_value level (attribute_forms level) any_row
    (attribute_rows_told level) (λ cut is good. attribute_respelled level cut is)
    (λ a is. record { fit = is; is_good = refl; value_is = attribute_value-row level a }) b attrs bytes

pub partners_decided : (b : List ℕ) (partners : List Partner) → All (λ c. c < 256) b
    → (partner_content b ≡ Ok partners ↔ SpellsRows 0 partner_forms (map partner_row partners) b)
unfolding partner_content
partners_decided b partners bytes = rows_told partner_row partner_value 0 partner_forms any_row (record { takes = refl; fits = refl })
    (λ cut is good. partner_respelled cut is)
    (λ p is. record { fit = is; is_good = refl; value_is = refl }) b partners bytes

pub places_decided : (b : List ℕ) (places : List Spot) → All (λ c. c < 256) b
    → (place_content b ≡ Ok places ↔ (SpellsRows 0 place_forms (map place_row places) b
    × AllByRecursion (λ s. is_vector_kind s.to.kind ≡ true) places))
unfolding place_content
places_decided b places bytes = rows_decided place_row place_value place_forms names_a_vector (λ (s : Spot). is_vector_kind s.to.kind ≡ true)
    (record { respelled = place_respelled; passes = vector_named; valued = place_has_value }) 0 (record { takes = refl; fits = refl }) b places bytes

pub ends_decided : (b : List ℕ) (ends : List End) → All (λ c. c < 256) b
    → (end_content b ≡ Ok ends ↔ (SpellsRows 0 end_forms (map end_row ends) b × AllByRecursion (λ e. is_vector_kind e.to.kind ≡ true) ends))
unfolding end_content
ends_decided b ends bytes = rows_decided end_row end_value end_forms names_a_vector (λ (e : End). is_vector_kind e.to.kind ≡ true)
    (record { respelled = end_respelled; passes = vector_named; valued = end_has_value }) 0 (record { takes = refl; fits = refl }) b ends bytes

pub plane_decided : (b : List ℕ) (points : List (ℤ × ℤ)) → All (λ c. c < 256) b
    → (plane_content b ≡ Ok points ↔ SpellsRows 0 plane_forms (map plane_row points) b)
unfolding plane_content
plane_decided b points bytes = rows_told plane_row plane_value 0 plane_forms any_row (record { takes = refl; fits = refl })
    (λ cut is good. plane_respelled cut is)
    (λ p is. record { fit = is; is_good = refl; value_is = refl }) b points bytes

pub deep_decided : (b : List ℕ) (soundings : List (ℤ × ℤ × ℤ)) → All (λ c. c < 256) b
    → (deep_content b ≡ Ok soundings ↔ SpellsRows 0 deep_forms (map deep_row soundings) b)
unfolding deep_content
deep_decided b soundings bytes = rows_told deep_row deep_value 0 deep_forms any_row (record { takes = refl; fits = refl })
    (λ cut is good. deep_respelled cut is)
    (λ p is. record { fit = is; is_good = refl; value_is = refl }) b soundings bytes
