-- The bytes of the file that a cell is written to: the data descriptive record, the two head records, then isolated nodes,
-- connected nodes, edges and features in the order of their lists (ISO/IEC 8211; S-57 Part 3, 7.3, 7.6 and 7.7).
use Rattle.std.specs.Prelude.{ℕ, ◌%◌, ◌&&◌, Bool, true, false, not, nat_le, List, [], ◌∷◌, ◌++◌, length, count_by}
use Rattle.std.specs.List.{flat_map, enumerate_from}
use Rattle.frame_spec.specs.WrittenRecord.{written_record}
use Rattle.s57_types.specs.RecordFields.{identification_fields, parameter_fields, record_fields}
use Rattle.s57_types.specs.declared.record.Rec.{Rec}
use Rattle.s57_types.specs.declared.record.Rec.TheVariants.{V, F, H}
use Rattle.s57_types.specs.declared.cell.Cell.{Cell}
use Rattle.cell_spec.specs.Lookup.{all_records}
use Rattle.file_spec.specs.DescriptiveRecord.{descriptive_fields}

-- whether a record is a feature of an object class from one code to another
abbrev pub has_class_from : ℕ → ℕ → Rec → Bool
has_class_from low high (V v) = false
has_class_from low high (F f) = nat_le low f.objl && nat_le f.objl high
has_class_from low high (H h) = false

-- meta, collection and cartographic objects by the codes of their classes, and geo objects, which are all others
-- (S-57 Part 3, 7.3.1.2; the ranges are those of the object catalogue)
abbrev pub is_meta : Rec → Bool
is_meta = has_class_from 300 399

abbrev pub is_collection : Rec → Bool
is_collection = has_class_from 400 499

abbrev pub is_cartographic : Rec → Bool
is_cartographic = has_class_from 500 599

abbrev pub is_geo : Rec → Bool
is_geo r = not (has_class_from 300 599 r)

-- NOMR, NOCR, NOGR, NOLR, NOIN, NOCN, NOED and NOFA; there are no faces
abbrev pub record_counts : Cell → List ℕ
record_counts c = count_by is_meta c.fe ∷ count_by is_cartographic c.fe ∷ count_by is_geo c.fe ∷ count_by is_collection c.fe
    ∷ length c.vi ∷ length c.vc ∷ length c.ve ∷ 0 ∷ []

-- data records have numbers from 1 on; behind 65,535 comes 0. This project's own choice
abbrev pub record_number : ℕ → ℕ
record_number n = n % 65536

abbrev pub record_bytes : ℕ → ℕ → Rec → List ℕ
record_bytes nall n r = written_record false (record_fields nall (record_number n) r)

-- records one after the other, with numbers from one on
abbrev pub records_bytes : ℕ → ℕ → List Rec → List ℕ
records_bytes nall first records = flat_map (λ (p : ℕ × Rec). record_bytes nall p.0 p.1) (enumerate_from first records)

abbrev pub head_bytes : Cell → List ℕ
head_bytes c = written_record false (identification_fields 1 c.head (record_counts c)) ++ written_record false (parameter_fields 2 c.head)

unfoldable pub encoded_cell : Cell → List ℕ
encoded_cell c = written_record true (descriptive_fields c.head.aall c.head.nall) ++ head_bytes c ++ records_bytes c.head.nall 3 (all_records c)
