-- The values of the fields of a record, by their tags, whatever the type of the record.
use Rattle.std.specs.Prelude.{ℕ, List, [], ◌++◌, take, drop, Option}
use Rattle.std.specs.Result.{result_ok, result_unwrap_or}
use Rattle.frame_spec.specs.RecordFrame.{Field}
use Rattle.field_spec.specs.Contents.{dsid_content, dssi_content, dspm_content, frid_content, foid_content, attribute_content, partner_content}
use Rattle.field_spec.specs.Contents.{place_content, vrid_content, end_content, plane_content, deep_content}
use Rattle.file_spec.specs.RecordReading.{fields_fault, value_of, rows_of}
use Rattle.file_spec.specs.declared.fault.RecordFault.{RecordFault}
use Rattle.file_spec.specs.declared.tag.FieldTag.{FieldTag}
use Rattle.file_spec.specs.declared.tag.FieldTag.TheVariants as tags
use Rattle.file_spec.specs.declared.tag.RecordType.{RecordType}
use Rattle.cell_read.specs.Kept.{kept_with}
use Rattle.cell_read.specs.declared.values.FieldValues.{FieldValues}

-- the first value of a tag that stands once, and all rows of a tag of rows; national attributes at the level NALL
unfoldable pub values_of : ℕ → List Field → FieldValues
values_of nall fields = record {
  dsid = value_of tags.Dsid dsid_content fields;
  dssi = value_of tags.Dssi dssi_content fields;
  dspm = value_of tags.Dspm dspm_content fields;
  frid = value_of tags.Frid frid_content fields;
  foid = value_of tags.Foid foid_content fields;
  attf = rows_of tags.Attf (attribute_content 0) fields;
  natf = rows_of tags.Natf (attribute_content nall) fields;
  partners = rows_of tags.Ffpt partner_content fields;
  places = rows_of tags.Fspt place_content fields;
  vrid = value_of tags.Vrid vrid_content fields;
  attv = rows_of tags.Attv (attribute_content 0) fields;
  ends = rows_of tags.Vrpt end_content fields;
  plane = rows_of tags.Sg2d plane_content fields;
  deep = rows_of tags.Sg3d deep_content fields;
}

-- values with those of one field more, as far as rows are kept
unfoldable pub with_content : ℕ → FieldTag → List ℕ → FieldValues → FieldValues
with_content nall tags.RecordNumber b v = v
with_content nall tags.Dsid b v = record v { dsid = result_ok (dsid_content b) }
with_content nall tags.Dssi b v = record v { dssi = result_ok (dssi_content b) }
with_content nall tags.Dspm b v = record v { dspm = result_ok (dspm_content b) }
with_content nall tags.Frid b v = record v { frid = result_ok (frid_content b) }
with_content nall tags.Foid b v = record v { foid = result_ok (foid_content b) }
with_content nall tags.Attf b v = record v { attf = v.attf ++ result_unwrap_or (attribute_content 0 b) [] }
with_content nall tags.Natf b v = record v { natf = v.natf ++ result_unwrap_or (attribute_content nall b) [] }
with_content nall tags.Ffpt b v = record v { partners = kept_with v.partners (result_unwrap_or (partner_content b) []) }
with_content nall tags.Fspt b v = record v { places = kept_with v.places (result_unwrap_or (place_content b) []) }
with_content nall tags.Vrid b v = record v { vrid = result_ok (vrid_content b) }
with_content nall tags.Attv b v = record v { attv = v.attv ++ result_unwrap_or (attribute_content 0 b) [] }
with_content nall tags.Vrpt b v = record v { ends = kept_with v.ends (result_unwrap_or (end_content b) []) }
with_content nall tags.Sg2d b v = record v { plane = kept_with v.plane (result_unwrap_or (plane_content b) []) }
with_content nall tags.Sg3d b v = record v { deep = kept_with v.deep (result_unwrap_or (deep_content b) []) }

-- the first fault of the fields from a place on
abbrev pub fault_from : ℕ → RecordType → List Field → ℕ → Option RecordFault
fault_from nall type fields k = fields_fault nall type (take k fields) (drop k fields)
