-- The square is written to its file, and read from it.
use Rattle.std.specs.Prelude.{◌≡◌, ℕ, true, List, [], ◌∷◌, ◌++◌, length, map, take, drop, set, Result, Ok, Err}
use Rattle.s57_types.specs.declared.cell.Cell.{Cell}
use Rattle.s57_types.specs.declared.fault.CellFault.{CellFault}
use Rattle.frame_spec.specs.WrittenRecord.{written_record, field_lengths, field_area}
use Rattle.file_spec.specs.FileRecords.{FileRecord, file_records}
use Rattle.file_spec.specs.DescriptiveRecord.{descriptive_fields}
use Rattle.file_spec.specs.EncodedCell.{encoded_cell, record_bytes}
use Rattle.file_spec.specs.DecodedCell.{decoded_cell}
use Rattle.cell_parts.specs.Parts.{head, node}
use Rattle.cell_make.specs.Square.{square}
use Rattle.file_samples.specs.SquareBytes.{square_bytes, square_with, node_bytes, wide_node_bytes, zero_bytes, descriptive_bytes, general_bytes}
use Rattle.file_samples.specs.SquareBytes.{geographic_bytes, no_counts}

-- how long the fields of the data descriptive record are, all of them, and the record
abbrev pub DescriptiveRecordHasLengths : Type 0
DescriptiveRecordHasLengths = map (λ (b : List ℕ). length b)
    (field_area (descriptive_fields 0 0) ∷ written_record true (descriptive_fields 0 0) ∷ []) ≡ 1377 ∷ 1578 ∷ []

abbrev pub DescriptionsHaveLengths : Type 0
DescriptionsHaveLengths =
    field_lengths (descriptive_fields 0 0) ≡ 123 ∷ 43 ∷ 165 ∷ 113 ∷ 130 ∷ 100 ∷ 70 ∷ 59 ∷ 68 ∷ 86 ∷ 90 ∷ 78 ∷ 58 ∷ 76 ∷ 48 ∷ 70 ∷ []

abbrev pub DescriptiveRecordIsWritten : Type 0
DescriptiveRecordIsWritten = written_record true (descriptive_fields 0 0) ≡ descriptive_bytes

abbrev pub FirstNodeIsWritten : Type 0
FirstNodeIsWritten = record_bytes 0 3 (node 1 0 0) ≡ node_bytes 3 1 zero_bytes zero_bytes

abbrev pub SquareIsWritten : Type 0
SquareIsWritten = encoded_cell square ≡ square_bytes

-- where its records begin, and where it ends
abbrev pub SquareHasOffsets : Type 0
SquareHasOffsets =
    map (λ (r : FileRecord). r.offset) (file_records square_bytes) ++ (length square_bytes ∷ [])
    ≡ 0 ∷ 1578 ∷ 1717 ∷ 1785 ∷ 1852 ∷ 1919 ∷ 1986 ∷ 2053 ∷ 2133 ∷ 2213 ∷ 2293 ∷ 2373 ∷ 2488 ∷ 2616 ∷ []

abbrev pub SquareIsRead : Type 0
SquareIsRead = decoded_cell square_bytes ≡ Ok square

-- a node with a wide entry map is read as before, and written with the narrow one
abbrev pub WideNodeIsRead : Type 0
WideNodeIsRead = (map decoded_cell (square_with wide_node_bytes ∷ []) ≡ Ok square ∷ [])
    × (map (λ (b : List ℕ). length b) (wide_node_bytes ∷ node_bytes 3 1 zero_bytes zero_bytes ∷ []) ≡ 88 ∷ 67 ∷ [])

-- the head alone
abbrev pub no_records : Cell
no_records = record { head = head 0 0; vi = []; vc = []; ve = []; fe = [] }

abbrev pub EmptyCellIsWritten : Type 0
EmptyCellIsWritten = (encoded_cell no_records ≡ descriptive_bytes ++ general_bytes no_counts ++ geographic_bytes)
    × (decoded_cell (encoded_cell no_records) ≡ Ok no_records)

-- a cell fault by its three numbers
abbrev pub fault : ℕ → ℕ → ℕ → Result Cell CellFault
fault number offset code = Err (record { number = number; offset = offset; code = code })

-- the file cut to a length, with what it stands for then
abbrev pub cuts : List (ℕ × Result Cell CellFault)
cuts =
    (0, fault 1 0 1) ∷ (1, fault 1 0 1) ∷ (24, fault 1 0 1) ∷ (1577, fault 1 0 1) ∷
    (1578, fault 2 1578 1) ∷ (1579, fault 2 1578 1) ∷ (1716, fault 2 1578 1) ∷
    (1717, fault 3 1717 1) ∷ (1784, fault 3 1717 1) ∷
    (1785, Ok no_records) ∷ (1786, fault 4 1785 1) ∷ (1851, fault 4 1785 1) ∷
    (1852, Ok (record no_records { vc = node 1 0 0 ∷ [] })) ∷
    (2053, Ok (record square { ve = []; fe = [] })) ∷ (2373, Ok (record square { fe = [] })) ∷ (2615, fault 13 2488 1) ∷ []

abbrev pub CutsAreRead : Type 0
CutsAreRead = map (λ (row : ℕ × Result Cell CellFault). decoded_cell (take row.0 square_bytes)) cuts ≡ map (λ (row : ℕ × Result Cell CellFault). row.1) cuts

-- the file with one byte changed, with its fault then: the place from 0 and the new byte
abbrev pub changed_bytes : List ((ℕ × ℕ) × Result Cell CellFault)
changed_bytes =
    ((0, 120), fault 1 0 2) ∷ ((1635, 2), fault 2 1578 8) ∷ ((1681, 3), fault 2 1578 9) ∷ ((1682, 2), fault 2 1578 4) ∷
    ((1789, 57), fault 5 1854 2) ∷ ((1791, 82), fault 4 1785 2) ∷ ((1816, 88), fault 4 1785 7) ∷ ((1823, 88), fault 4 1785 7) ∷
    ((1830, 32), fault 4 1785 3) ∷ ((1833, 0), Ok square) ∷ ((1834, 140), fault 4 1785 4) ∷ ((1841, 2), fault 4 1785 8) ∷
    ((1842, 0), fault 4 1785 4) ∷ ((1902, 1), fault 5 1852 10) ∷ []

abbrev pub ChangedBytesAreRead : Type 0
ChangedBytesAreRead = map (λ (row : (ℕ × ℕ) × Result Cell CellFault). decoded_cell (set square_bytes row.0.0 row.0.1)) changed_bytes ≡
    map (λ (row : (ℕ × ℕ) × Result Cell CellFault). row.1) changed_bytes

-- the last record once more
abbrev pub RepeatedRecordIsRead : Type 0
RepeatedRecordIsRead = decoded_cell (square_bytes ++ drop 2488 square_bytes) ≡ fault 14 2616 10
