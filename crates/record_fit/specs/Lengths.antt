-- Lengths of fields as the program counts them.
use Rattle.std.specs.Prelude.{◌≡◌, ℕ, ◌+◌, ◌-◌, ◌^◌, ◌==◌, Bool, not, nat_le, List, [], ◌∷◌, length, take, filter, fold, sum, min, max, if◌then◌else◌}
use Rattle.std.specs.List.{flat_map}
use Rattle.frame_spec.specs.WrittenRecord.{record_length}
use Rattle.s57_types.specs.Subfield.{Subfield, row_bytes}
use Rattle.s57_types.specs.RecordFields.{terminator_of, length_limit}
use Rattle.record_fit.specs.declared.length.Sizes.{Sizes}

-- a count in a machine word stands still at the word's end
abbrev pub saturated : ℕ → ℕ
saturated n = min n (2 ^ 64 - 1)

-- the length of a field whose rows have so many bytes, 0 where it has no row
abbrev pub field_length : ℕ → ℕ → ℕ
field_length bytes terminator = if bytes == 0 then 0 else bytes + terminator

-- the length of a field of rows, 0 where it has no row
abbrev pub rows_length : {X : Type 0} → ℕ → (X → List Subfield) → List X → ℕ
rows_length level row [] = 0
rows_length level row (x ∷ xs) = length (flat_map (λ y. row_bytes (row y)) (x ∷ xs)) + length (terminator_of level)

-- the lengths of the fields that are there
abbrev pub present : List ℕ → List ℕ
present = filter (λ n. not (n == 0))

-- a record of fields of these lengths isn't too long
abbrev pub is_within_limit : List ℕ → Bool
is_within_limit lengths = nat_le (record_length (present lengths)) length_limit

-- what the directory needs to know of fields of these lengths
pub record IsSizesOf (lengths : List ℕ) (sizes : Sizes) : Type 0 where
  pub count : sizes.count ≡ length (present lengths)
  pub longest : sizes.longest ≡ fold max 0 (present lengths)
  pub last_begins : sizes.last_begins ≡ saturated (sum (take (length (present lengths) - 1) (present lengths)))
  pub total : sizes.total ≡ saturated (sum (present lengths))
