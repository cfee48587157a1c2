-- The fields of a writable cell are read as they were written.
use Rattle.std.proofs.Common.{◌≡◌, ◌≤◌, ◌<◌, ℕ, ◌^◌, Bool, true, false, not, ◌&&◌, List, [], ◌∷◌, ◌++◌, length, nat_le, Ok, None, refl, sym, ap, ◌∙◌, arith}
use Rattle.std.specs.Prelude.{ℤ, ◌==◌, ◌%◌}
use Rattle.std.specs.List.{AllByRecursion, list_all, flat_map}
use Rattle.std.proofs.lemmas.Bool.{leb-true, eqb-true}
use Rattle.std.proofs.lemmas.List.{length-append}
use Rattle.std.proofs.lemmas.List.Sums.{count_by-le-length}
use Rattle.std.proofs.lemmas.List.Folds.{list_all-append}
use Rattle.std.proofs.lemmas.List.Elements.{recursion_from_All}
use Rattle.s57_types.specs.Subfield.{Form, Subfield, unsigned_of, signed_of, text_of, wide_text_of, fixed_of, is_plain, holds, has_unit, unit_terminator}
use Rattle.s57_types.specs.Subfield.{field_terminator, IsSubfield}
use Rattle.s57_types.specs.FieldRows.{dsid_forms, dssi_forms, dspm_forms, frid_forms, foid_forms, attribute_forms, partner_forms, place_forms, vrid_forms}
use Rattle.s57_types.specs.FieldRows.{end_forms, plane_forms, deep_forms, dsid_row, dssi_row, dspm_row, frid_row, foid_row, attribute_row, partner_row}
use Rattle.s57_types.specs.FieldRows.{place_row, vrid_row, end_row, plane_row, deep_row}
use Rattle.s57_types.specs.Fitness.{unfitness, is_vector_kind, is_feature_kind, is_fit_head}
use Rattle.s57_types.specs.RecordFields.{dsid_of_head, dssi_of_head, dspm_of_head}
use Rattle.s57_types.specs.declared.cell.Cell.{Cell}
use Rattle.s57_types.specs.declared.head.Head.{Head}
use Rattle.s57_types.specs.declared.name.Lnam.{Lnam}
use Rattle.s57_types.specs.declared.field.Dsid.{Dsid}
use Rattle.s57_types.specs.declared.field.Dssi.{Dssi}
use Rattle.s57_types.specs.declared.field.Dspm.{Dspm}
use Rattle.s57_types.specs.declared.field.Frid.{Frid}
use Rattle.s57_types.specs.declared.field.Vrid.{Vrid}
use Rattle.s57_types.specs.declared.record.Attr.{Attr}
use Rattle.s57_types.specs.declared.record.End.{End}
use Rattle.s57_types.specs.declared.record.Spot.{Spot}
use Rattle.s57_types.specs.declared.record.Partner.{Partner}
use Rattle.s57_types.specs.declared.record.Rec.{Rec}
use Rattle.s57_types.specs.declared.record.Rec.TheVariants.{V, F, H}
use Rattle.cell_spec.specs.Lookup.{all_records}
use Rattle.cell_spec.specs.Writable.{IsWritable}
use Rattle.field_spec.specs.Contents.{dsid_content, dssi_content, dspm_content, frid_content, foid_content, attribute_content, partner_content}
use Rattle.field_spec.specs.Contents.{place_content, vrid_content, end_content, plane_content, deep_content}
use Rattle.field_spec.specs.FieldBytes.{field_bytes, rows_bytes}
use Rattle.field_spec.specs.FieldFit.{IsFit}
use Rattle.file_spec.specs.EncodedCell.{record_counts, is_meta, is_cartographic, is_geo, is_collection}
use Rattle.file_spec.specs.ReadBack.{vrid_of, frid_of, HeadIsReadBack, RecordIsReadBack}
use Rattle.file_spec.specs.RoundTrip.{IsInRange, HasForms, RecordHasForms, HasItsTypes, RoundTrip}
use Rattle.file_spec.proofs.CellBack.{cell_is_read_back, or_parts}
use Rattle.file_spec.proofs.CellFields.{both, fit_is_found}

-- what is known of single fields
pub record FieldLaws : Type 0 where
  pub dsid : (d : Dsid) → IsFit dsid_forms (dsid_row d) → dsid_content (field_bytes (dsid_row d)) ≡ Ok d
  pub dssi : (d : Dssi) → IsFit dssi_forms (dssi_row d) → d.aall ≤ 1 → d.nall ≤ 2 → dssi_content (field_bytes (dssi_row d)) ≡ Ok d
  pub dspm : (d : Dspm) → IsFit dspm_forms (dspm_row d) → dspm_content (field_bytes (dspm_row d)) ≡ Ok d
  pub frid : (d : Frid) → IsFit frid_forms (frid_row d) → frid_content (field_bytes (frid_row d)) ≡ Ok d
  pub foid : (d : Lnam) → IsFit foid_forms (foid_row d) → foid_content (field_bytes (foid_row d)) ≡ Ok d
  pub vrid : (d : Vrid) → IsFit vrid_forms (vrid_row d) → is_vector_kind d.name.kind ≡ true → vrid_content (field_bytes (vrid_row d)) ≡ Ok d
  pub attributes : (level : ℕ) (attrs : List Attr) → AllByRecursion (λ a. IsFit (attribute_forms level) (attribute_row level a)) attrs
      → attribute_content level (rows_bytes level (attribute_row level) attrs) ≡ Ok attrs
  pub partners : (partners : List Partner) → AllByRecursion (λ p. IsFit partner_forms (partner_row p)) partners
      → partner_content (rows_bytes 0 partner_row partners) ≡ Ok partners
  pub places : (places : List Spot) → AllByRecursion (λ s. IsFit place_forms (place_row s)) places
      → list_all (λ s. is_vector_kind s.to.kind) places ≡ true → place_content (rows_bytes 0 place_row places) ≡ Ok places
  pub ends : (ends : List End) → AllByRecursion (λ e. IsFit end_forms (end_row e)) ends → list_all (λ e. is_vector_kind e.to.kind) ends ≡ true
      → end_content (rows_bytes 0 end_row ends) ≡ Ok ends
  pub plane : (points : List (ℤ × ℤ)) → AllByRecursion (λ p. IsFit plane_forms (plane_row p)) points → plane_content (rows_bytes 0 plane_row points) ≡ Ok points
  pub deep : (soundings : List (ℤ × ℤ × ℤ)) → AllByRecursion (λ p. IsFit deep_forms (deep_row p)) soundings
      → deep_content (rows_bytes 0 deep_row soundings) ≡ Ok soundings

not_true : (b : Bool) → not b ≡ true → b ≡ false
not_true true e = absurd cc
not_true false e = refl

-- a plain text whose numbers fit
subfield_fits : (s : Subfield) → IsInRange s → is_plain s ≡ true → IsSubfield s
subfield_fits (unsigned_of w n) range plain = range
subfield_fits (signed_of z) range plain = range
subfield_fits (text_of t) range plain = (or_parts (holds field_terminator t) (holds unit_terminator t) (not_true _ plain)).1
subfield_fits (wide_text_of t) range plain =
    let parts = both (length t % 2 == 0) _ plain in
    (eqb-true (length t % 2) 0 parts.0, (or_parts (has_unit field_terminator t) (has_unit unit_terminator t) (not_true _ parts.1)).1)
subfield_fits (fixed_of t) range plain = tt

each_fits : (row : List Subfield) → AllByRecursion IsInRange row → list_all is_plain row ≡ true → AllByRecursion IsSubfield row
each_fits [] range plain = tt
each_fits (s ∷ row) range plain = let parts = both (is_plain s) (list_all is_plain row) plain in
    (subfield_fits s range.0 parts.0, each_fits row range.1 parts.1)

fit_row : (forms : List Form) (row : List Subfield) → HasForms forms row → list_all is_plain row ≡ true → IsFit forms row
fit_row forms row has plain = record { is_row = record { forms_are = has.forms_are; each = each_fits row has.each plain }; has_plain_texts = plain }

fit_rows : {X : Type 0} (forms : List Form) (row : X → List Subfield) (xs : List X) → AllByRecursion (λ x. HasForms forms (row x)) xs
    → list_all is_plain (flat_map row xs) ≡ true → AllByRecursion (λ x. IsFit forms (row x)) xs
fit_rows forms row [] has plain = tt
fit_rows forms row (x ∷ xs) has plain =
    let parts = both (list_all is_plain (row x)) (list_all is_plain (flat_map row xs)) (sym (list_all-append is_plain (row x) (flat_map row xs)) ∙ plain) in
    (fit_row forms (row x) has.0 parts.0, fit_rows forms row xs has.1 parts.1)

-- rows of numbers have no text
plain_rows : {X : Type 0} (row : X → List Subfield) → ((x : X) → list_all is_plain (row x) ≡ true) → (xs : List X) → list_all is_plain (flat_map row xs) ≡ true
plain_rows row plain [] = refl
plain_rows row plain (x ∷ xs) = list_all-append is_plain (row x) (flat_map row xs) ∙ ap (λ b. b && list_all is_plain (flat_map row xs)) (plain x)
    ∙ plain_rows row plain xs

record_back : (laws : FieldLaws) (nall : ℕ) (r : Rec) → unfitness nall r ≡ None → RecordHasForms nall r → RecordIsReadBack nall r
record_back laws nall (V v) fit has =
    let fits = fit_is_found nall (V v) fit in
    let names = both (is_vector_kind v.name.kind) _ fits.names in record {
      identifier = laws.vrid (vrid_of v) (fit_row vrid_forms (vrid_row (vrid_of v)) has.identifier refl) names.0;
      attrs = laws.attributes 0 v.attrs (fit_rows (attribute_forms 0) (attribute_row 0) v.attrs has.attrs fits.texts);
      ends = laws.ends v.ends (fit_rows end_forms end_row v.ends has.ends (plain_rows end_row (λ e. refl) v.ends)) names.1;
      plane = laws.plane v.plane (fit_rows plane_forms plane_row v.plane has.plane (plain_rows plane_row (λ p. refl) v.plane));
      deep = laws.deep v.deep (fit_rows deep_forms deep_row v.deep has.deep (plain_rows deep_row (λ p. refl) v.deep));
    }
record_back laws nall (F f) fit has =
    let fits = fit_is_found nall (F f) fit in
    let names = both (is_feature_kind f.name.kind) _ fits.names in
    let attf : List Subfield = flat_map (attribute_row 0) f.attf in
    let natf : List Subfield = flat_map (attribute_row nall) f.natf in
    let partners : List Subfield = flat_map partner_row f.partners in
    let last = both (list_all is_plain (attf ++ natf)) (list_all is_plain partners) (sym (list_all-append is_plain (attf ++ natf) partners) ∙ fits.texts) in
    let first = both (list_all is_plain attf) (list_all is_plain natf) (sym (list_all-append is_plain attf natf) ∙ last.0) in record {
      identifier = laws.frid (frid_of f) (fit_row frid_forms (frid_row (frid_of f)) has.identifier refl);
      foid = laws.foid f.foid (fit_row foid_forms (foid_row f.foid) has.foid refl);
      attf = laws.attributes 0 f.attf (fit_rows (attribute_forms 0) (attribute_row 0) f.attf has.attf first.0);
      natf = laws.attributes nall f.natf (fit_rows (attribute_forms nall) (attribute_row nall) f.natf has.natf first.1);
      partners = laws.partners f.partners (fit_rows partner_forms partner_row f.partners has.partners last.1);
      places = laws.places f.places (fit_rows place_forms place_row f.places has.places (plain_rows place_row (λ s. refl) f.places)) names.1;
    }
record_back laws nall (H h) fit has = tt

records_back : (laws : FieldLaws) (nall : ℕ) (records : List Rec) → AllByRecursion (λ r. unfitness nall r ≡ None) records
    → AllByRecursion (RecordHasForms nall) records → AllByRecursion (RecordIsReadBack nall) records
records_back laws nall [] fit has = tt
records_back laws nall (r ∷ records) fit has = (record_back laws nall r fit.0 has.0, records_back laws nall records fit.1 has.1)

-- the counts of a writable cell have four bytes
counts_fit : (c : Cell) → IsWritable c → AllByRecursion (λ n. n < 256 ^ 4) (record_counts c)
counts_fit c w =
    let few : length (c.vi ++ c.vc ++ c.ve ++ c.fe) ≤ 262144 = w.not_too_many in
    let parts = simp length-append at few in
    let meta = count_by-le-length is_meta c.fe in
    let cartographic = count_by-le-length is_cartographic c.fe in
    let geo = count_by-le-length is_geo c.fe in
    let collection = count_by-le-length is_collection c.fe in (
      omega (arith, parts, meta),
      (
        omega (arith, parts, cartographic),
        (
          omega (arith, parts, geo),
          (
            omega (arith, parts, collection),
            (omega (arith, parts), (omega (arith, parts), (omega (arith, parts), (omega arith, tt)))),
          ),
        ),
      ),
    )

head_back : (laws : FieldLaws) (c : Cell) → IsWritable c → HasItsTypes c → HeadIsReadBack c.head (record_counts c)
unfolding is_fit_head
head_back laws c w has =
    let h : Head = c.head in
    let parameters_short = both _ _ w.head_fits in
    let identification_short = both _ _ parameters_short.0 in
    let parameters_plain = both _ _ identification_short.0 in
    let identification_plain = both _ _ parameters_plain.0 in
    let levels = both (nat_le h.aall 1) (nat_le h.nall 2) identification_plain.0 in
    let aall : h.aall ≤ 1 = leb-true h.aall 1 levels.0 in
    let nall : h.nall ≤ 2 = leb-true h.nall 2 levels.1 in
    let counts = counts_fit c w in record {
      dsid = laws.dsid (dsid_of_head h) (fit_row dsid_forms (dsid_row (dsid_of_head h)) has.dsid identification_plain.1);
      dssi = laws.dssi (dssi_of_head h (record_counts c)) (record {
        is_row = record { forms_are = refl; each = (omega arith, (omega (arith, aall), (omega (arith, nall), counts))) };
        has_plain_texts = refl;
      }) aall nall;
      dspm = laws.dspm (dspm_of_head h) (fit_row dspm_forms (dspm_row (dspm_of_head h)) has.dspm parameters_plain.1);
    }

pub round_trip_from : FieldLaws → RoundTrip
round_trip_from laws c w has = cell_is_read_back c w (record {
  head = head_back laws c w has;
  records =
      records_back laws c.head.nall (all_records c) (recursion_from_All _ (all_records c) w.records_fit) has.records;
})
