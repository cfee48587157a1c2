-- The cell that the records of a file stand for, or the file's first fault: in file order, and within a record in the order
-- of the steps below (S-57 Part 3, 7.3, 7.6 and 7.7; Appendix B.1; the order is this project's own).
use Rattle.std.specs.Prelude.{ℕ, ◌+◌, ◌==◌, Bool, true, false, not, nat_le, nat_lt, List, [], ◌∷◌, length, Result, Ok, Err, codes}
use Rattle.std.specs.List.{list_any}
use Rattle.std.specs.Result.{result_map_both}
use Rattle.frame_spec.specs.RecordFrame.{Field, FrameView}
use Rattle.frame_spec.specs.WrittenRecord.{record_length, field_lengths}
use Rattle.s57_types.specs.FieldRows.{dsid_row, dssi_row, dspm_row}
use Rattle.s57_types.specs.RecordFields.{number_field, field_of, written_length, length_limit}
use Rattle.s57_types.specs.declared.fault.CellFault.{CellFault}
use Rattle.s57_types.specs.declared.name.Kind.TheVariants.{Fe}
use Rattle.s57_types.specs.declared.name.Lnam.{Lnam}
use Rattle.s57_types.specs.declared.record.Attr.{Attr}
use Rattle.s57_types.specs.declared.record.Partner.{Partner}
use Rattle.s57_types.specs.declared.record.Spot.{Spot}
use Rattle.s57_types.specs.declared.record.Rec.{Rec}
use Rattle.s57_types.specs.declared.record.Rec.TheVariants.{V, F}
use Rattle.s57_types.specs.declared.field.Dsid.{Dsid}
use Rattle.s57_types.specs.declared.field.Dssi.{Dssi}
use Rattle.s57_types.specs.declared.field.Dspm.{Dspm}
use Rattle.s57_types.specs.declared.field.Frid.{Frid}
use Rattle.s57_types.specs.declared.field.Vrid.{Vrid}
use Rattle.s57_types.specs.declared.cell.Cell.{Cell}
use Rattle.field_spec.specs.Contents.{dsid_content, dssi_content, dspm_content, frid_content, foid_content, attribute_content, partner_content}
use Rattle.field_spec.specs.Contents.{place_content, vrid_content, end_content, plane_content, deep_content}
use Rattle.cell_spec.specs.Lookup.{all_records, name_of, is_named}
use Rattle.cell_spec.specs.Writable.{record_limit}
use Rattle.file_spec.specs.CellRecords.{empty_cell, head_with, with_record}
use Rattle.file_spec.specs.FileRecords.{FileRecord, file_records}
use Rattle.file_spec.specs.RecordFaults.{◌>>=◌, ◌>>◌, demand, fault_at, of_frame}
use Rattle.file_spec.specs.RecordReading.{record_type, fields_fault, required, rows_of}
use Rattle.file_spec.specs.declared.fault.RecordFault.{RecordFault}
use Rattle.file_spec.specs.declared.fault.RecordFault.TheVariants.{Short, NotBase, NotChainNode, TwiceName, HeadOrder, TooLong, TooMany}
use Rattle.file_spec.specs.declared.tag.FieldTag.TheVariants as tags
use Rattle.file_spec.specs.declared.tag.RecordType.{RecordType}
use Rattle.file_spec.specs.declared.tag.RecordType.TheVariants as types

abbrev pub is_general_information : RecordType → Bool
is_general_information types.GeneralInformation = true
is_general_information types.GeographicReference = false
is_general_information types.Vector = false
is_general_information types.Feature = false

abbrev pub is_geographic_reference : RecordType → Bool
is_geographic_reference types.GeneralInformation = false
is_geographic_reference types.GeographicReference = true
is_geographic_reference types.Vector = false
is_geographic_reference types.Feature = false

-- the two head records take no more bytes than they may, when they are written again
abbrev pub fits_general_information : Dsid → Dssi → Bool
fits_general_information d s = nat_le (record_length (field_lengths
    (number_field 0 ∷ field_of (codes "DSID") (dsid_row d) ∷ field_of (codes "DSSI") (dssi_row s) ∷ []))) length_limit

abbrev pub fits_geographic_reference : Dspm → Bool
fits_geographic_reference p = nat_le (record_length (field_lengths (number_field 0 ∷ field_of (codes "DSPM") (dspm_row p) ∷ []))) length_limit

-- the first data record: the data set identification and structure information of a new data set with chain-node
-- topology (S-57 Part 3, 7.3.1)
unfoldable pub general_information : List Field → Result (Dsid × Dssi) RecordFault
general_information fields = do
  type ← record_type fields
  demand (is_general_information type) HeadOrder
  fields_fault 0 types.GeneralInformation [] fields
  d ← required tags.Dsid dsid_content fields
  s ← required tags.Dssi dssi_content fields
  demand (d.expp == 1) NotBase
  demand (s.dstr == 2) NotChainNode
  demand (fits_general_information d s) TooLong
  Ok (d, s)

-- the second data record: the data set parameters (S-57 Part 3, 7.3.2)
unfoldable pub geographic_reference : List Field → Result Dspm RecordFault
geographic_reference fields = do
  type ← record_type fields
  demand (is_geographic_reference type) HeadOrder
  fields_fault 0 types.GeographicReference [] fields
  p ← required tags.Dspm dspm_content fields
  demand (fits_geographic_reference p) TooLong
  Ok p

-- the vector record of an identifier and of the rows of fields
abbrev pub vector_of : List Field → Vrid → Rec
vector_of fields d = V (record {
  name = d.name;
  rver = d.rver;
  attrs = rows_of tags.Attv (attribute_content 0) fields;
  ends = rows_of tags.Vrpt end_content fields;
  plane = rows_of tags.Sg2d plane_content fields;
  deep = rows_of tags.Sg3d deep_content fields;
})

-- the values of the fields of a vector record that is inserted (S-57 Part 3, 7.7)
abbrev pub vector_record : List Field → Result Rec RecordFault
vector_record fields = do
  fields_fault 0 types.Vector [] fields
  d ← required tags.Vrid vrid_content fields
  demand (d.ruin == 1) NotBase
  Ok (vector_of fields d)

-- the feature record of its two identifiers, with lists
abbrev pub feature_with_lists : Frid → Lnam → List Attr → List Attr → List Partner → List Spot → Rec
feature_with_lists d l attf natf partners places = F (record {
  name = record { kind = Fe; id = d.rcid };
  prim = d.prim;
  grup = d.grup;
  objl = d.objl;
  rver = d.rver;
  foid = l;
  attf = attf;
  natf = natf;
  partners = partners;
  places = places;
})

-- the same with the rows of fields, national attributes at the level NALL
abbrev pub feature_of : ℕ → List Field → Frid → Lnam → Rec
feature_of nall fields d l = feature_with_lists d l (rows_of tags.Attf (attribute_content 0) fields) (rows_of tags.Natf (attribute_content nall) fields)
    (rows_of tags.Ffpt partner_content fields) (rows_of tags.Fspt place_content fields)

-- the values of the fields of a feature record that is inserted, at the level NALL (S-57 Part 3, 7.6)
abbrev pub feature_record : ℕ → List Field → Result Rec RecordFault
feature_record nall fields = do
  fields_fault nall types.Feature [] fields
  d ← required tags.Frid frid_content fields
  l ← required tags.Foid foid_content fields
  demand (d.ruin == 1) NotBase
  Ok (feature_of nall fields d l)

-- no head record stands behind the two
abbrev pub record_values : ℕ → List Field → RecordType → Result Rec RecordFault
record_values nall fields types.GeneralInformation = Err HeadOrder
record_values nall fields types.GeographicReference = Err HeadOrder
record_values nall fields types.Vector = vector_record fields
record_values nall fields types.Feature = feature_record nall fields

-- a later record, behind those of a cell: it has a new name, isn't too long when it is written again, and has room
unfoldable pub record_behind : Cell → List Field → Result Rec RecordFault
record_behind c fields = do
  type ← record_type fields
  r ← record_values c.head.nall fields type
  demand (not (list_any (is_named (name_of r)) (all_records c))) TwiceName
  demand (nat_le (written_length c.head.nall r) length_limit) TooLong
  demand (nat_lt (length (all_records c)) record_limit) TooMany
  Ok r

-- what the record of a number says, or its fault. The fault of its frame comes first
abbrev pub said_by : {X : Type 0} → ℕ → (List Field → Result X RecordFault) → FileRecord → Result X CellFault
said_by number meaning r = result_map_both (λ x. x) (fault_at number r.offset)
    (result_map_both (λ (frame : FrameView). frame.fields) of_frame r.found >>= meaning)

-- the same of a record that must be there, with the records behind it; a file that ends before it is cut short at its end
abbrev pub said_by_next : {X : Type 0} → ℕ → ℕ → (List Field → Result X RecordFault) → List FileRecord → Result (X × List FileRecord) CellFault
said_by_next number end meaning [] = Err (fault_at number end Short)
said_by_next number end meaning (r ∷ file) = result_map_both (λ x. (x, file)) (λ e. e) (said_by number meaning r)

-- a cell with the records that follow, which have numbers from one on
unfoldable pub with_following : ℕ → Cell → List FileRecord → Result Cell CellFault
with_following number c [] = Ok c
with_following number c (r ∷ file) = said_by number (record_behind c) r >>= λ rec. with_following (number + 1) (with_record rec c) file

-- the cell of the records of a file of so many bytes: the data descriptive record, whose fields aren't looked at, the two
-- head records, and the vector and feature records in any order
unfoldable pub decoded_records : ℕ → List FileRecord → Result Cell CellFault
decoded_records end file = do
  descriptive ← said_by_next 1 end Ok file
  general ← said_by_next 2 end general_information descriptive.1
  geographic ← said_by_next 3 end geographic_reference general.1
  with_following 4 (empty_cell (head_with general.0.0 general.0.1 geographic.0)) geographic.1

abbrev pub decoded_cell : List ℕ → Result Cell CellFault
decoded_cell b = decoded_records (length b) (file_records b)
