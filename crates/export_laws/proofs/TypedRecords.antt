-- A record that was read fits its types.
use Rattle.std.proofs.Common.{◌≡◌, ℕ, Bool, true, false, cond, List, [], ◌∷◌, find, filter, Option, Some, Result, Ok, Err}
use Rattle.std.proofs.Common.{refl, subst, arith, ◌<◌, ◌^◌}
use Rattle.std.specs.List.{AllByRecursion, flat_map}
use Rattle.std.specs.Option.{ok_or, option_and_then}
use Rattle.std.specs.Result.{result_ok, result_unwrap_or}
use Rattle.frame_spec.specs.RecordFrame.{Field}
use Rattle.s57_types.specs.declared.record.Rec.{Rec}
use Rattle.s57_types.specs.declared.cell.Cell.{Cell}
use Rattle.field_spec.specs.Contents.{frid_content, foid_content, attribute_content, partner_content, place_content, vrid_content, end_content}
use Rattle.field_spec.specs.Contents.{plane_content, deep_content}
use Rattle.field_spec.specs.declared.fault.FieldFault.{FieldFault}
use Rattle.file_spec.specs.DecodedCell.{vector_record, feature_record, record_values, record_behind}
use Rattle.file_spec.specs.FieldTags.{is_tagged}
use Rattle.file_spec.specs.RecordReading.{required, rows_of}
use Rattle.file_spec.specs.RoundTrip.{RecordHasForms}
use Rattle.file_spec.specs.declared.fault.RecordFault.TheVariants.{MissingField}
use Rattle.file_spec.specs.declared.tag.FieldTag.{FieldTag}
use Rattle.file_spec.specs.declared.tag.FieldTag.TheVariants as tags
use Rattle.file_spec.specs.declared.tag.RecordType.{RecordType}
use Rattle.file_spec.specs.declared.tag.RecordType.TheVariants as types
use Rattle.decode_laws.proofs.Records.{vector_said, feature_said, behind_said}
use Rattle.cell_spec.proofs.EachItem.{each_append}
use Rattle.export_laws.specs.DecodedTypes.{AreFileBytes}
use Rattle.export_laws.proofs.FileBytes.{IsOfBytes, AreOfBytes}
use Rattle.export_laws.proofs.TypedRows.{frid_typed, foid_typed, vrid_typed, attributes_typed, partners_typed, places_typed, ends_typed, plane_typed}
use Rattle.export_laws.proofs.TypedRows.{deep_typed}

-- ---- a field that must be there
module _ {X : Type 0} (tag : FieldTag) (content : List ℕ → Result X FieldFault) (Has : X → Type 0) (typed : (b : List ℕ) (x : X)
    → AreFileBytes b → content b ≡ Ok x → Has x) where
  content_has : (field : Field) (r : Result X FieldFault) (x : X) → IsOfBytes field → content field.bytes ≡ r → ok_or (result_ok r) MissingField ≡ Ok x → Has x
  content_has field (Ok y) x bytes was is = let same : y ≡ x = cc in subst Has same (typed field.bytes y bytes was)
  content_has field (Err fault) x bytes was is = absurd cc

  this_or_later : (tagged : Bool) (field : Field) (later : Option Field) (x : X) → IsOfBytes field
      → (ok_or (option_and_then (λ (f : Field). result_ok (content f.bytes)) later) MissingField ≡ Ok x → Has x)
      → ok_or (option_and_then (λ (f : Field). result_ok (content f.bytes)) (cond tagged (Some field) later)) MissingField ≡ Ok x → Has x
  this_or_later true field later x bytes others is = content_has field (content field.bytes) x bytes refl is
  this_or_later false field later x bytes others is = others is

  pub first_tagged : (fields : List Field) (x : X) → AreOfBytes fields → required tag content fields ≡ Ok x → Has x
  first_tagged [] x bytes is = absurd cc
  first_tagged (field ∷ fields) x bytes is = this_or_later (is_tagged tag field) field (find (is_tagged tag) fields) x bytes.0
      (first_tagged fields x bytes.1) is

-- ---- the rows of all fields of a tag
module _ {X : Type 0} (tag : FieldTag) (content : List ℕ → Result (List X) FieldFault) (Has : X → Type 0)
    (typed : (b : List ℕ) (xs : List X) → AreFileBytes b → content b ≡ Ok xs → AllByRecursion Has xs) where
  abbrev rows_in : Field → List X
  rows_in field = result_unwrap_or (content field.bytes) []

  rows_have : (field : Field) (r : Result (List X) FieldFault) → IsOfBytes field → content field.bytes ≡ r → AllByRecursion Has (result_unwrap_or r [])
  rows_have field (Ok xs) bytes was = typed field.bytes xs bytes was
  rows_have field (Err fault) bytes was = tt

  these_and_later : (tagged : Bool) (field : Field) (later : List Field) → IsOfBytes field → AllByRecursion Has (flat_map rows_in later)
      → AllByRecursion Has (flat_map rows_in (cond tagged (field ∷ later) later))
  these_and_later true field later bytes others = each_append Has (rows_in field) (flat_map rows_in later)
      (rows_have field (content field.bytes) bytes refl) others
  these_and_later false field later bytes others = others

  rows_each : (fields : List Field) → AreOfBytes fields → AllByRecursion Has (rows_of tag content fields)
  rows_each [] bytes = tt
  rows_each (field ∷ fields) bytes = these_and_later (is_tagged tag field) field (filter (is_tagged tag) fields) bytes.0 (rows_each fields bytes.1)

-- ---- a record by itself
vector_is_typed : (nall : ℕ) (fields : List Field) (r : Rec) → AreOfBytes fields → vector_record fields ≡ Ok r → RecordHasForms nall r
vector_is_typed nall fields r bytes is =
    let said = vector_said fields r is in
    let named = first_tagged tags.Vrid vrid_content _ vrid_typed fields said.d bytes said.vrid in
    let inserted : 1 < 256 ^ 1 = omega arith in
    subst (RecordHasForms nall) said.same (record {
      identifier = record { forms_are = named.forms_are; each = (named.each.0, (named.each.1.0, (named.each.1.1.0, (inserted, tt)))) };
      attrs = rows_each tags.Attv (attribute_content 0) _ (attributes_typed 0) fields bytes;
      ends = rows_each tags.Vrpt end_content _ ends_typed fields bytes;
      plane = rows_each tags.Sg2d plane_content _ plane_typed fields bytes;
      deep = rows_each tags.Sg3d deep_content _ deep_typed fields bytes;
    })

feature_is_typed : (nall : ℕ) (fields : List Field) (r : Rec) → AreOfBytes fields → feature_record nall fields ≡ Ok r → RecordHasForms nall r
feature_is_typed nall fields r bytes is =
    let said = feature_said nall fields r is in
    let named = first_tagged tags.Frid frid_content _ frid_typed fields said.d bytes said.frid in
    let each = named.each in
    let inserted : 1 < 256 ^ 1 = omega arith in
    subst (RecordHasForms nall) said.same (record {
      identifier = record {
        forms_are = named.forms_are;
        each = (each.0, (each.1.0, (each.1.1.0, (each.1.1.1.0, (each.1.1.1.1.0, (each.1.1.1.1.1.0, (inserted, tt)))))));
      };
      foid = first_tagged tags.Foid foid_content _ foid_typed fields said.l bytes said.foid;
      attf = rows_each tags.Attf (attribute_content 0) _ (attributes_typed 0) fields bytes;
      natf = rows_each tags.Natf (attribute_content nall) _ (attributes_typed nall) fields bytes;
      partners = rows_each tags.Ffpt partner_content _ partners_typed fields bytes;
      places = rows_each tags.Fspt place_content _ places_typed fields bytes;
    })

values_are_typed : (nall : ℕ) (fields : List Field) (type : RecordType) (r : Rec) → AreOfBytes fields → record_values nall fields type ≡ Ok r
    → RecordHasForms nall r
values_are_typed nall fields types.GeneralInformation r bytes is = absurd cc
values_are_typed nall fields types.GeographicReference r bytes is = absurd cc
values_are_typed nall fields types.Vector r bytes is = vector_is_typed nall fields r bytes is
values_are_typed nall fields types.Feature r bytes is = feature_is_typed nall fields r bytes is

-- ---- a record behind those of a cell
pub behind_is_typed : (c : Cell) (fields : List Field) (r : Rec) → AreOfBytes fields → record_behind c fields ≡ Ok r → RecordHasForms c.head.nall r
behind_is_typed c fields r bytes is =
    let said = behind_said c fields r is in values_are_typed c.head.nall fields said.type r bytes said.values
