-- The edit that a record of an update stands for, or the record's first fault: in the order of the steps below (S-57 Part 3, 8.4; Appendix B.1;
-- the order is this project's own).
use Rattle.std.specs.Prelude.{ℕ, ◌+◌, ◌==◌, ◌&&◌, Bool, not, is_some, nat_le, nat_lt, List, length, Option, Some, None, Result, Ok, Err, if◌then◌else◌}
use Rattle.std.specs.List.{list_any}
use Rattle.std.specs.Option.{option_and_then, ok_or}
use Rattle.frame_spec.specs.RecordFrame.{Field}
use Rattle.s57_types.specs.RecordFields.{written_length, length_limit}
use Rattle.s57_types.specs.declared.name.Kind.TheVariants.{Fe}
use Rattle.s57_types.specs.declared.name.Lnam.{Lnam}
use Rattle.s57_types.specs.declared.name.RecName.{RecName}
use Rattle.s57_types.specs.declared.record.End.{End}
use Rattle.s57_types.specs.declared.record.Feature.{Feature}
use Rattle.s57_types.specs.declared.record.Partner.{Partner}
use Rattle.s57_types.specs.declared.record.Spot.{Spot}
use Rattle.s57_types.specs.declared.record.Vector.{Vector}
use Rattle.s57_types.specs.declared.record.Rec.{Rec}
use Rattle.s57_types.specs.declared.record.Rec.TheVariants.{V, F, H}
use Rattle.s57_types.specs.declared.field.Frid.{Frid}
use Rattle.s57_types.specs.declared.field.Vrid.{Vrid}
use Rattle.s57_types.specs.declared.cell.Cell.{Cell}
use Rattle.field_spec.specs.Contents.{frid_content, foid_content, attribute_content, partner_content, place_content, vrid_content, end_content}
use Rattle.field_spec.specs.Contents.{plane_content, deep_content}
use Rattle.cell_spec.specs.declared.edit.Edit.{Edit}
use Rattle.cell_spec.specs.declared.edit.Edit.TheVariants.{Add, Set, Del}
use Rattle.cell_spec.specs.Lookup.{lookup_record}
use Rattle.cell_spec.specs.Names.{same_identity}
use Rattle.edit_sets.specs.FormFault.{has_edit_of}
use Rattle.file_spec.specs.DecodedCell.{vector_of, feature_of}
use Rattle.file_spec.specs.FieldTags.{is_tagged}
use Rattle.file_spec.specs.RecordFaults.{◌>>=◌, ◌>>◌, demand}
use Rattle.file_spec.specs.RecordReading.{record_type, required, rows_of}
use Rattle.file_spec.specs.declared.fault.RecordFault.TheVariants.{NotBase, TwiceName, HeadOrder, TooLong}
use Rattle.file_spec.specs.declared.tag.FieldTag.TheVariants as tags
use Rattle.file_spec.specs.declared.tag.RecordType.{RecordType}
use Rattle.file_spec.specs.declared.tag.RecordType.TheVariants as types
use Rattle.update_spec.specs.ControlFields.{instruction_of, control_among, has_controls}
use Rattle.update_spec.specs.UpdateFaults.{of_record}
use Rattle.update_spec.specs.UpdateFields.{checked_fields}
use Rattle.update_spec.specs.UpdatedAttributes.{updated_attributes}
use Rattle.update_spec.specs.UpdatedRows.{Coordinates, updated_rows, updated_coordinates}
use Rattle.update_spec.specs.declared.control.ControlTag.TheVariants.{Vrpc, Sgcc, Ffpc, Fspc}
use Rattle.update_spec.specs.declared.control.Instruction.{Instruction}
use Rattle.update_spec.specs.declared.identifiers.Identifiers.{Identifiers}
use Rattle.update_spec.specs.declared.control.Instruction.TheVariants.{Insert, Delete, Modify}
use Rattle.update_spec.specs.declared.fault.UpdateFault.{UpdateFault}
use Rattle.update_spec.specs.declared.fault.UpdateFault.TheVariants.{Record, NoTarget, TargetThere, WrongVersion, OtherIdentity, BadControl, LevelMix}
use Rattle.update_spec.specs.declared.fault.UpdateFault.TheVariants.{TooManyEdits}

-- ---- the record of the cell that an update record is about. A vector or feature record is never named like the head
abbrev pub vector_in : Rec → Option Vector
vector_in (V v) = Some v
vector_in (F f) = None
vector_in (H h) = None

abbrev pub feature_in : Rec → Option Feature
feature_in (V v) = None
feature_in (F f) = Some f
feature_in (H h) = None

abbrev pub target_vector : Cell → RecName → Option Vector
target_vector c n = option_and_then vector_in (lookup_record c n)

abbrev pub target_feature : Cell → RecName → Option Feature
target_feature c n = option_and_then feature_in (lookup_record c n)

-- nothing in the cell has the name
abbrev pub is_new : Cell → RecName → Bool
is_new c n = not (is_some (lookup_record c n))

-- a record that comes out has at most 99,999 bytes when it is written in the cell's file
abbrev pub is_short : Cell → Rec → Bool
is_short c r = nat_le (written_length c.head.nall r) length_limit

-- ---- vector records
abbrev pub given_coordinates : List Field → Coordinates
given_coordinates fields = (rows_of tags.Sg2d plane_content fields, rows_of tags.Sg3d deep_content fields)

-- the rows of the fields are the record; control fields have nothing to go by
unfoldable pub inserted_vector : Vrid → List Field → Rec
inserted_vector d fields = vector_of fields d

abbrev pub vector_with : Vector → Vrid → List Field → List End → Coordinates → Rec
vector_with target d fields ends points = V (record {
  name = d.name;
  rver = d.rver;
  attrs = updated_attributes 0 (rows_of tags.Attv (attribute_content 0) fields) target.attrs;
  ends = ends;
  plane = points.0;
  deep = points.1;
})

unfoldable pub modified_vector : Vector → Vrid → List Field → Result Rec UpdateFault
modified_vector target d fields = do
  ends ← updated_rows (control_among Vrpc fields) (rows_of tags.Vrpt end_content fields) target.ends
  points ← updated_coordinates (control_among Sgcc fields) (given_coordinates fields) (target.plane, target.deep)
  Ok (vector_with target d fields ends points)

unfoldable pub vector_edit : Instruction → Cell → Vrid → List Field → Result Edit UpdateFault
vector_edit Insert c d fields = do
  demand (is_new c d.name) TargetThere
  demand (not (has_controls types.Vector fields)) BadControl
  demand (is_short c (inserted_vector d fields)) (Record TooLong)
  Ok (Add (inserted_vector d fields))
vector_edit Delete c d fields = do
  target ← ok_or (target_vector c d.name) NoTarget
  Ok (Del d.name)
vector_edit Modify c d fields = do
  target ← ok_or (target_vector c d.name) NoTarget
  demand (d.rver == target.rver + 1) WrongVersion
  r ← modified_vector target d fields
  demand (is_short c r) (Record TooLong)
  Ok (Set r)

-- ---- feature records
abbrev pub feature_name : Frid → RecName
feature_name d = record { kind = Fe; id = d.rcid }

unfoldable pub inserted_feature : ℕ → Frid → Lnam → List Field → Rec
inserted_feature level d l fields = feature_of level fields d l

-- the primitive, the group, the class and the identifier stay
abbrev pub feature_with : ℕ → Feature → Frid → List Field → List Partner → List Spot → Rec
feature_with level target d fields partners places = F (record {
  name = feature_name d;
  prim = target.prim;
  grup = target.grup;
  objl = target.objl;
  rver = d.rver;
  foid = target.foid;
  attf = updated_attributes 0 (rows_of tags.Attf (attribute_content 0) fields) target.attf;
  natf = updated_attributes level (rows_of tags.Natf (attribute_content level) fields) target.natf;
  partners = partners;
  places = places;
})

unfoldable pub modified_feature : ℕ → Feature → Frid → List Field → Result Rec UpdateFault
modified_feature level target d fields = do
  partners ← updated_rows (control_among Ffpc fields) (rows_of tags.Ffpt partner_content fields) target.partners
  places ← updated_rows (control_among Fspc fields) (rows_of tags.Fspt place_content fields) target.places
  Ok (feature_with level target d fields partners places)

unfoldable pub feature_edit : Instruction → Cell → ℕ → Frid → Lnam → List Field → Result Edit UpdateFault
feature_edit Insert c level d l fields = do
  demand (is_new c (feature_name d)) TargetThere
  demand (not (has_controls types.Feature fields)) BadControl
  demand (is_short c (inserted_feature level d l fields)) (Record TooLong)
  Ok (Add (inserted_feature level d l fields))
feature_edit Delete c level d l fields = do
  target ← ok_or (target_feature c (feature_name d)) NoTarget
  demand (same_identity l target.foid) OtherIdentity
  Ok (Del (feature_name d))
feature_edit Modify c level d l fields = do
  target ← ok_or (target_feature c (feature_name d)) NoTarget
  demand (d.rver == target.rver + 1) WrongVersion
  demand (same_identity l target.foid) OtherIdentity
  r ← modified_feature level target d fields
  demand (is_short c r) (Record TooLong)
  Ok (Set r)

-- ---- a record behind those that earlier edits stand for
-- how many records an update may have: a set of edits has one more, of the head
abbrev pub update_limit : ℕ
update_limit = 4095

-- exactly one of two lexical levels is that of two-byte texts
abbrev pub are_mixed : ℕ → ℕ → Bool
are_mixed a b = if a == 2 then not (b == 2) else (b == 2)

-- the name is new in the update, and there is room for an edit more
abbrev pub is_next : List Edit → RecName → Option UpdateFault
is_next earlier n = if has_edit_of n earlier then Some (Record TwiceName) else demand (nat_lt (length earlier) update_limit) TooManyEdits

-- a vector record
unfoldable pub vector_update : Cell → List Edit → List Field → Result Edit UpdateFault
vector_update c earlier fields = do
  good ← checked_fields 0 types.Vector fields
  d ← of_record (required tags.Vrid vrid_content fields)
  instruction ← ok_or (instruction_of d.ruin) (Record NotBase)
  is_next earlier d.name
  vector_edit instruction c d fields

-- the identifiers of a feature record, which must be there
abbrev pub identifiers : List Field → Result Identifiers UpdateFault
identifiers fields = do
  d ← of_record (required tags.Frid frid_content fields)
  l ← of_record (required tags.Foid foid_content fields)
  Ok (record { frid = d; foid = l })

-- a feature record of an update whose national attributes are at a level
unfoldable pub feature_update : Cell → ℕ → List Edit → List Field → Result Edit UpdateFault
feature_update c level earlier fields = do
  good ← checked_fields level types.Feature fields
  ids ← identifiers fields
  instruction ← ok_or (instruction_of ids.frid.ruin) (Record NotBase)
  is_next earlier (feature_name ids.frid)
  demand (not (list_any (is_tagged tags.Natf) fields && are_mixed level c.head.nall)) LevelMix
  feature_edit instruction c level ids.frid ids.foid fields

-- a data set geographic reference record has no effect; it may be the second data record alone
unfoldable pub no_update : ℕ → List Field → Result (Option Edit) UpdateFault
no_update number fields = do
  demand (number == 3) (Record HeadOrder)
  good ← checked_fields 0 types.GeographicReference fields
  Ok None

abbrev pub update_of_type : RecordType → Cell → ℕ → ℕ → List Edit → List Field → Result (Option Edit) UpdateFault
update_of_type types.GeneralInformation c level number earlier fields = Err (Record HeadOrder)
update_of_type types.GeographicReference c level number earlier fields = no_update number fields
update_of_type types.Vector c level number earlier fields = vector_update c earlier fields >>= λ edit. Ok (Some edit)
update_of_type types.Feature c level number earlier fields = feature_update c level earlier fields >>= λ edit. Ok (Some edit)

-- the record of a number, from 3 on, behind those that some edits stand for
unfoldable pub record_update : Cell → ℕ → ℕ → List Edit → List Field → Result (Option Edit) UpdateFault
record_update c level number earlier fields = do
  type ← of_record (record_type fields)
  update_of_type type c level number earlier fields
