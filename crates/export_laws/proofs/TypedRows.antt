-- What the bytes of a field say fits the forms of its row.
use Rattle.std.proofs.Common.{◌≡◌, ℕ, List, [], ◌∷◌, map, Ok}
use Rattle.std.specs.Prelude.{ℤ}
use Rattle.std.specs.List.{AllByRecursion}
use Rattle.s57_types.specs.Subfield.{Form, Subfield, unsigned_of, signed_of, IsSubfield}
use Rattle.s57_types.specs.FieldRows.{dsid_forms, dspm_forms, frid_forms, foid_forms, attribute_forms, partner_forms, place_forms, vrid_forms, end_forms}
use Rattle.s57_types.specs.FieldRows.{plane_forms, deep_forms, dsid_row, dspm_row, frid_row, foid_row, attribute_row, partner_row, place_row, vrid_row}
use Rattle.s57_types.specs.FieldRows.{end_row, plane_row, deep_row}
use Rattle.s57_types.specs.declared.name.Lnam.{Lnam}
use Rattle.s57_types.specs.declared.record.Attr.{Attr}
use Rattle.s57_types.specs.declared.record.End.{End}
use Rattle.s57_types.specs.declared.record.Spot.{Spot}
use Rattle.s57_types.specs.declared.record.Partner.{Partner}
use Rattle.s57_types.specs.declared.field.Dsid.{Dsid}
use Rattle.s57_types.specs.declared.field.Dspm.{Dspm}
use Rattle.s57_types.specs.declared.field.Frid.{Frid}
use Rattle.s57_types.specs.declared.field.Vrid.{Vrid}
use Rattle.field_spec.specs.Contents.{dsid_content, dspm_content, frid_content, foid_content, attribute_content, partner_content, place_content}
use Rattle.field_spec.specs.Contents.{vrid_content, end_content, plane_content, deep_content}
use Rattle.field_spec.specs.FieldContent.{IsRow}
use Rattle.field_spec.proofs.DecidedFields.{dsid_decided, dspm_decided, frid_decided, foid_decided, vrid_decided, attributes_decided, partners_decided}
use Rattle.field_spec.proofs.DecidedFields.{places_decided, ends_decided, plane_decided, deep_decided}
use Rattle.file_spec.specs.RoundTrip.{IsInRange, HasForms}
use Rattle.cell_spec.proofs.EachItem.{each_weaker}
use Rattle.export_laws.specs.DecodedTypes.{AreFileBytes}

in_range : (s : Subfield) → IsSubfield s → IsInRange s
in_range (unsigned_of w n) is = is
in_range (signed_of z) is = is
in_range s is = tt

has_forms : (forms : List Form) (row : List Subfield) → IsRow forms row → HasForms forms row
has_forms forms row is = record { forms_are = is.forms_are; each = each_weaker IsSubfield IsInRange in_range row is.each }

each_has_forms : {X : Type 0} (forms : List Form) (row : X → List Subfield) (xs : List X) → AllByRecursion (IsRow forms) (map row xs)
    → AllByRecursion (λ (x : X). HasForms forms (row x)) xs
each_has_forms forms row [] are = tt
each_has_forms forms row (x ∷ xs) are = (has_forms forms (row x) are.0, each_has_forms forms row xs are.1)

pub dsid_typed : (b : List ℕ) (d : Dsid) → AreFileBytes b → dsid_content b ≡ Ok d → HasForms dsid_forms (dsid_row d)
dsid_typed b d bytes is = has_forms dsid_forms (dsid_row d) ((dsid_decided b d bytes).0 is).is_field.is_row

pub dspm_typed : (b : List ℕ) (p : Dspm) → AreFileBytes b → dspm_content b ≡ Ok p → HasForms dspm_forms (dspm_row p)
dspm_typed b p bytes is = has_forms dspm_forms (dspm_row p) ((dspm_decided b p bytes).0 is).is_field.is_row

pub frid_typed : (b : List ℕ) (d : Frid) → AreFileBytes b → frid_content b ≡ Ok d → HasForms frid_forms (frid_row d)
frid_typed b d bytes is = has_forms frid_forms (frid_row d) ((frid_decided b d bytes).0 is).is_field.is_row

pub foid_typed : (b : List ℕ) (l : Lnam) → AreFileBytes b → foid_content b ≡ Ok l → HasForms foid_forms (foid_row l)
foid_typed b l bytes is = has_forms foid_forms (foid_row l) ((foid_decided b l bytes).0 is).is_field.is_row

pub vrid_typed : (b : List ℕ) (d : Vrid) → AreFileBytes b → vrid_content b ≡ Ok d → HasForms vrid_forms (vrid_row d)
vrid_typed b d bytes is = has_forms vrid_forms (vrid_row d) ((vrid_decided b d bytes).0 is).0.is_field.is_row

pub attributes_typed : (level : ℕ) (b : List ℕ) (attrs : List Attr) → AreFileBytes b → attribute_content level b ≡ Ok attrs
    → AllByRecursion (λ a. HasForms (attribute_forms level) (attribute_row level a)) attrs
attributes_typed level b attrs bytes is = each_has_forms (attribute_forms level) (attribute_row level) attrs
    ((attributes_decided level b attrs bytes).0 is).is_field.each

pub partners_typed : (b : List ℕ) (partners : List Partner) → AreFileBytes b → partner_content b ≡ Ok partners
    → AllByRecursion (λ p. HasForms partner_forms (partner_row p)) partners
partners_typed b partners bytes is = each_has_forms partner_forms partner_row partners ((partners_decided b partners bytes).0 is).is_field.each

pub places_typed : (b : List ℕ) (places : List Spot) → AreFileBytes b → place_content b ≡ Ok places
    → AllByRecursion (λ s. HasForms place_forms (place_row s)) places
places_typed b places bytes is = each_has_forms place_forms place_row places ((places_decided b places bytes).0 is).0.is_field.each

pub ends_typed : (b : List ℕ) (ends : List End) → AreFileBytes b → end_content b ≡ Ok ends → AllByRecursion (λ e. HasForms end_forms (end_row e)) ends
ends_typed b ends bytes is = each_has_forms end_forms end_row ends ((ends_decided b ends bytes).0 is).0.is_field.each

pub plane_typed : (b : List ℕ) (plane : List (ℤ × ℤ)) → AreFileBytes b → plane_content b ≡ Ok plane
    → AllByRecursion (λ p. HasForms plane_forms (plane_row p)) plane
plane_typed b plane bytes is = each_has_forms plane_forms plane_row plane ((plane_decided b plane bytes).0 is).is_field.each

pub deep_typed : (b : List ℕ) (deep : List (ℤ × ℤ × ℤ)) → AreFileBytes b → deep_content b ≡ Ok deep
    → AllByRecursion (λ p. HasForms deep_forms (deep_row p)) deep
deep_typed b deep bytes is = each_has_forms deep_forms deep_row deep ((deep_decided b deep bytes).0 is).is_field.each
