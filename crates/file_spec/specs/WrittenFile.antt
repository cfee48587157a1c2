-- The records of a file that was written.
use Rattle.std.specs.Prelude.{◌≡◌, ℕ, ◌+◌, Bool, true, false, List, [], ◌∷◌, ◌++◌, map, Ok}
use Rattle.std.specs.List.{AllByRecursion, enumerate_from}
use Rattle.frame_spec.specs.RecordFrame.{Field}
use Rattle.frame_spec.specs.WrittenRecord.{CanBeWritten, written_record, record_length, field_lengths}
use Rattle.s57_types.specs.RecordFields.{identification_fields, parameter_fields, record_fields}
use Rattle.s57_types.specs.declared.cell.Cell.{Cell}
use Rattle.s57_types.specs.declared.record.Rec.{Rec}
use Rattle.cell_spec.specs.Lookup.{all_records}
use Rattle.cell_spec.specs.Writable.{IsWritable}
use Rattle.file_spec.specs.DescriptiveRecord.{descriptive_fields}
use Rattle.file_spec.specs.EncodedCell.{encoded_cell, record_counts, record_number}
use Rattle.file_spec.specs.FileRecords.{FileRecord, file_records}

-- records of these fields one after the other, of which the first may be the data descriptive record
abbrev pub written_records : Bool → List (List Field) → List ℕ
written_records first [] = []
written_records first (fields ∷ records) = written_record first fields ++ written_records false records

-- the same as records of a file, from an offset on
abbrev pub placed_records : ℕ → List (List Field) → List FileRecord
placed_records offset [] = []
placed_records offset (fields ∷ records) = let size = record_length (field_lengths fields) in record {
  offset = offset;
  found = Ok (record { length = size; fields = fields });
} ∷ placed_records (offset + size) records

-- the records that a cell is written as
abbrev pub fields_of_cell : Cell → List (List Field)
fields_of_cell c =
    descriptive_fields c.head.aall c.head.nall ∷ identification_fields 1 c.head (record_counts c) ∷ parameter_fields 2 c.head
    ∷ map (λ (p : ℕ × Rec). record_fields c.head.nall (record_number p.0) p.1) (enumerate_from 3 (all_records c))

-- a file of records that can be written has these records
abbrev pub WrittenRecordsAreFound : Type 0
WrittenRecordsAreFound = (records : List (List Field)) → AllByRecursion CanBeWritten records
    → file_records (written_records true records) ≡ placed_records 0 records

-- the file of a writable cell has the cell's records
abbrev pub CellRecordsAreFound : Type 0
CellRecordsAreFound = (c : Cell) → IsWritable c → file_records (encoded_cell c) ≡ placed_records 0 (fields_of_cell c)
