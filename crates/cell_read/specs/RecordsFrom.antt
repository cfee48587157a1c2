-- What the values of the fields of a record make of it.
use Rattle.std.specs.Prelude.{ℕ, ◌==◌, not, nat_le, nat_lt, List, [], length, Option, Result, Ok}
use Rattle.std.specs.List.{list_any}
use Rattle.std.specs.Option.{option_or, ok_or}
use Rattle.frame_spec.specs.RecordFrame.{Field}
use Rattle.s57_types.specs.declared.record.Rec.{Rec}
use Rattle.s57_types.specs.declared.record.Rec.TheVariants.{V}
use Rattle.s57_types.specs.RecordFields.{written_length, length_limit}
use Rattle.s57_types.specs.declared.cell.Cell.{Cell}
use Rattle.s57_types.specs.declared.field.Dsid.{Dsid}
use Rattle.s57_types.specs.declared.field.Dssi.{Dssi}
use Rattle.s57_types.specs.declared.field.Dspm.{Dspm}
use Rattle.cell_spec.specs.Lookup.{all_records, name_of, is_named}
use Rattle.cell_spec.specs.Writable.{record_limit}
use Rattle.file_spec.specs.DecodedCell.{feature_with_lists, record_values, fits_general_information, fits_geographic_reference}
use Rattle.file_spec.specs.RecordFaults.{◌>>=◌, ◌>>◌, demand}
use Rattle.file_spec.specs.RecordReading.{record_type, fields_fault}
use Rattle.file_spec.specs.declared.fault.RecordFault.{RecordFault}
use Rattle.file_spec.specs.declared.fault.RecordFault.TheVariants.{MissingField, NotBase, NotChainNode, TwiceName, TooLong, TooMany}
use Rattle.file_spec.specs.declared.tag.RecordType.{RecordType}
use Rattle.cell_read.specs.ValuesOf.{values_of}
use Rattle.cell_read.specs.declared.values.FieldValues.{FieldValues}

-- what a record says whose fields have no fault, by the values of its fields
abbrev pub fields_then : {X : Type 0} → ℕ → RecordType → (FieldValues → Result X RecordFault) → List Field → Result X RecordFault
fields_then nall type meaning fields = fields_fault nall type [] fields >> meaning (values_of nall fields)

abbrev pub general_information_from : FieldValues → Result (Dsid × Dssi) RecordFault
general_information_from v = do
  d ← ok_or v.dsid MissingField
  s ← ok_or v.dssi MissingField
  demand (d.expp == 1) NotBase
  demand (s.dstr == 2) NotChainNode
  demand (fits_general_information d s) TooLong
  Ok (d, s)

abbrev pub geographic_reference_from : FieldValues → Result Dspm RecordFault
geographic_reference_from v = do
  p ← ok_or v.dspm MissingField
  demand (fits_geographic_reference p) TooLong
  Ok p

abbrev pub vector_from : FieldValues → Result Rec RecordFault
vector_from v = do
  d ← ok_or v.vrid MissingField
  demand (d.ruin == 1) NotBase
  Ok (V (record { name = d.name; rver = d.rver; attrs = v.attv; ends = v.ends; plane = v.plane; deep = v.deep }))

abbrev pub feature_from : FieldValues → Result Rec RecordFault
feature_from v = do
  d ← ok_or v.frid MissingField
  l ← ok_or v.foid MissingField
  demand (d.ruin == 1) NotBase
  Ok (feature_with_lists d l v.attf v.natf v.partners v.places)

-- a vector or feature record by itself, whatever stands before it in its file
abbrev pub record_said : ℕ → List Field → Result Rec RecordFault
record_said nall fields = record_type fields >>= record_values nall fields

-- the fault of a record behind those of a cell: its name isn't new, it is too long when it is written again, or there is
-- no room
abbrev pub following_fault : Cell → Rec → Option RecordFault
following_fault c r = option_or (demand (not (list_any (is_named (name_of r)) (all_records c))) TwiceName)
    (option_or (demand (nat_le (written_length c.head.nall r) length_limit) TooLong) (demand (nat_lt (length (all_records c)) record_limit) TooMany))
