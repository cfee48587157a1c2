-- The limits of a record's length and of the number of records.
use Rattle.std.specs.Prelude.{◌≡◌, ℕ, ◌<◌, ◌≤◌, true, false, List, [], ◌∷◌, length, map, replicate, pos, Some, None, Ok, Err}
use Rattle.std.specs.List.{list_any}
use Rattle.frame_spec.specs.RecordFrame.{Field}
use Rattle.s57_types.specs.Fitness.{unfitness}
use Rattle.s57_types.specs.RecordFields.{written_length, length_limit}
use Rattle.s57_types.specs.declared.name.Kind.TheVariants.{Vc}
use Rattle.s57_types.specs.declared.record.Rec.{Rec}
use Rattle.s57_types.specs.declared.record.Rec.TheVariants.{V}
use Rattle.s57_types.specs.declared.fault.Unfit.TheVariants.{TooLong}
use Rattle.s57_types.specs.declared.cell.Cell.{Cell}
use Rattle.cell_spec.specs.Lookup.{all_records, name_of, is_named}
use Rattle.cell_spec.specs.Writable.{record_limit}
use Rattle.file_spec.specs.DecodedCell.{record_behind, record_values}
use Rattle.file_spec.specs.RecordReading.{record_type}
use Rattle.file_spec.specs.declared.fault.RecordFault.TheVariants as faults
use Rattle.file_spec.specs.declared.tag.RecordType.{RecordType}
use Rattle.cell_parts.specs.Parts.{head, name, node}
use Rattle.file_samples.specs.SmallFiles.{vrid}

-- a node of so many points
abbrev pub points : ℕ → Rec
points n = V (record { name = name Vc 1; rver = 1; attrs = []; ends = []; plane = replicate n (pos 0, pos 0); deep = [] })

-- 71 bytes and eight for each point: 99,999 may be written, 100,007 may not
abbrev pub LengthLimitIsExact : Type 0
LengthLimitIsExact =
    ((written_length 0 (points 12491) ≡ 99999) × (unfitness 0 (points 12491) ≡ None))
    × ((written_length 0 (points 12492) ≡ 100007) × (unfitness 0 (points 12492) ≡ Some TooLong))

-- so many nodes of one name
abbrev pub crowd : ℕ → Cell
crowd n = record { head = head 0 0; vi = []; vc = replicate n (node 1 0 0); ve = []; fe = [] }

-- 262,144 records may be, and no more
abbrev pub RecordLimitIsExact : Type 0
RecordLimitIsExact =
    map (λ n. record_behind (crowd n) (vrid 120 2 1 ∷ [])) (262143 ∷ 262144 ∷ [])
    ≡ Ok (V (record { name = name Vc 2; rver = 1; attrs = []; ends = []; plane = []; deep = [] })) ∷ Err faults.TooMany ∷ []

-- the last three steps of a record with some values, whatever the cell before it
pub record LastSteps (c : Cell) (fields : List Field) (r : Rec) : Type 0 where
  pub twice : list_any (is_named (name_of r)) (all_records c) ≡ true → record_behind c fields ≡ Err faults.TwiceName
  pub too_long : list_any (is_named (name_of r)) (all_records c) ≡ false → length_limit < written_length c.head.nall r
      → record_behind c fields ≡ Err faults.TooLong
  pub too_many : list_any (is_named (name_of r)) (all_records c) ≡ false → written_length c.head.nall r ≤ length_limit → record_limit ≤ length (all_records c)
      → record_behind c fields ≡ Err faults.TooMany
  pub taken : list_any (is_named (name_of r)) (all_records c) ≡ false → written_length c.head.nall r ≤ length_limit
      → length (all_records c) < record_limit → record_behind c fields ≡ Ok r

abbrev pub LastStepsHaveOrder : Type 0
LastStepsHaveOrder = (c : Cell) (fields : List Field) (type : RecordType) (r : Rec) → record_type fields ≡ Ok type
    → record_values c.head.nall fields type ≡ Ok r → LastSteps c fields r
