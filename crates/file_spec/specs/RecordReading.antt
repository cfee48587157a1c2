-- What the fields of one record say, step by step: the type of the record, its fields one after the other, and their
-- values.
use Rattle.std.specs.Prelude.{ℕ, ◌&&◌, not, List, [], ◌∷◌, ◌++◌, find, filter, Option, Some, None, Result, Err, if◌then◌else◌}
use Rattle.std.specs.List.{list_any, flat_map}
use Rattle.std.specs.Option.{option_map, option_or, option_and_then, ok_or}
use Rattle.std.specs.Result.{result_ok, result_err, result_unwrap_or}
use Rattle.frame_spec.specs.RecordFrame.{Field}
use Rattle.field_spec.specs.Contents.{dsid_content, dssi_content, dspm_content, frid_content, foid_content, attribute_content, partner_content}
use Rattle.field_spec.specs.Contents.{place_content, vrid_content, end_content, plane_content, deep_content}
use Rattle.field_spec.specs.declared.fault.FieldFault.{FieldFault}
use Rattle.file_spec.specs.RecordFaults.{of_field}
use Rattle.file_spec.specs.FieldTags.{is_tagged, tag_in, may_repeat}
use Rattle.file_spec.specs.declared.fault.RecordFault.{RecordFault}
use Rattle.file_spec.specs.declared.fault.RecordFault.TheVariants.{MissingField, RepeatedField, ForeignTag}
use Rattle.file_spec.specs.declared.tag.FieldTag.{FieldTag}
use Rattle.file_spec.specs.declared.tag.FieldTag.TheVariants as tags
use Rattle.file_spec.specs.declared.tag.RecordType.{RecordType}
use Rattle.file_spec.specs.declared.tag.RecordType.TheVariants as types

-- the field that comes first in a record of a type, but for the record identifier (S-57 Part 3, 7.3, 7.6 and 7.7)
abbrev pub leading_tag : RecordType → FieldTag
leading_tag types.GeneralInformation = tags.Dsid
leading_tag types.GeographicReference = tags.Dspm
leading_tag types.Vector = tags.Vrid
leading_tag types.Feature = tags.Frid

abbrev pub type_of_leading : Field → Option RecordType
type_of_leading field = find (λ type. is_tagged (leading_tag type) field)
    (types.GeneralInformation ∷ types.GeographicReference ∷ types.Vector ∷ types.Feature ∷ [])

-- the type of a record, by its first field but the record identifier
abbrev pub record_type : List Field → Result RecordType RecordFault
record_type fields = of_leading (find (λ field. not (is_tagged tags.RecordNumber field)) fields)
  where
    of_leading : Option Field → Result RecordType RecordFault
    of_leading None = Err MissingField
    of_leading (Some field) = ok_or (type_of_leading field) ForeignTag

-- the fault of a field's bytes, if they have one. A record identifier isn't looked at. National attributes are at the
-- level NALL (S-57 Part 3, 2.4)
abbrev pub content_fault : ℕ → FieldTag → List ℕ → Option FieldFault
content_fault nall tags.RecordNumber b = None
content_fault nall tags.Dsid b = result_err (dsid_content b)
content_fault nall tags.Dssi b = result_err (dssi_content b)
content_fault nall tags.Dspm b = result_err (dspm_content b)
content_fault nall tags.Frid b = result_err (frid_content b)
content_fault nall tags.Foid b = result_err (foid_content b)
content_fault nall tags.Attf b = result_err (attribute_content 0 b)
content_fault nall tags.Natf b = result_err (attribute_content nall b)
content_fault nall tags.Ffpt b = result_err (partner_content b)
content_fault nall tags.Fspt b = result_err (place_content b)
content_fault nall tags.Vrid b = result_err (vrid_content b)
content_fault nall tags.Attv b = result_err (attribute_content 0 b)
content_fault nall tags.Vrpt b = result_err (end_content b)
content_fault nall tags.Sg2d b = result_err (plane_content b)
content_fault nall tags.Sg3d b = result_err (deep_content b)

-- the fault of a record that the content of one of its fields makes
abbrev pub fault_of_content : ℕ → FieldTag → List ℕ → Option RecordFault
fault_of_content nall tag b = option_map of_field (content_fault nall tag b)

-- the fault of a field that stands behind others: its tag is none of the record's, it stands twice and may not, or its
-- content has one
abbrev pub field_fault : ℕ → RecordType → List Field → Field → Option RecordFault
field_fault nall type before field = of_tag (tag_in type field)
  where
    of_tag : Option FieldTag → Option RecordFault
    of_tag None = Some ForeignTag
    of_tag (Some tag) = if list_any (is_tagged tag) before && not (may_repeat tag) then Some RepeatedField else fault_of_content nall tag field.bytes

-- the fault of the first field that has one, among fields behind others
unfoldable pub fields_fault : ℕ → RecordType → List Field → List Field → Option RecordFault
fields_fault nall type before [] = None
fields_fault nall type before (field ∷ fields) = option_or (field_fault nall type before field) (fields_fault nall type (before ++ (field ∷ [])) fields)

-- the value of the first field of a tag
abbrev pub value_of : {X : Type 0} → FieldTag → (List ℕ → Result X FieldFault) → List Field → Option X
value_of tag content fields = option_and_then (λ field. result_ok (content field.bytes)) (find (is_tagged tag) fields)

-- the value of a field that must be there
abbrev pub required : {X : Type 0} → FieldTag → (List ℕ → Result X FieldFault) → List Field → Result X RecordFault
required tag content fields = ok_or (value_of tag content fields) MissingField

-- the rows of all fields of a tag, one after the other
abbrev pub rows_of : {X : Type 0} → FieldTag → (List ℕ → Result (List X) FieldFault) → List Field → List X
rows_of tag content fields = flat_map (λ field. result_unwrap_or (content field.bytes) []) (filter (is_tagged tag) fields)
