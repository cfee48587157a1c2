-- The list of fields of a record.
use Rattle.std.proofs.Common.{◌≡◌, ◌<◌, ℕ, ◌+◌, List, length, Some, ap, ◌∙◌, arith}
use Rattle.std.specs.Prelude.{slice_get}
use Rattle.std.proofs.lemmas.Option.{slice_get-get_or}
use Rattle.std.proofs.lemmas.List.FromFn.{length-map-range_with_len, get_or-map-range_with_len}
use Rattle.frame_spec.specs.RecordFrame.{bytes_at, base_at, count_at, entry_place, field_length, field_position, field_at, fields_at}

pub length-fields_at : (b : List ℕ) (p : ℕ) → length (fields_at b p) ≡ count_at b p
length-fields_at b p = length-map-range_with_len (field_at b p) 0 (count_at b p)

pub slice_get-fields_at : (b : List ℕ) (p k : ℕ) → k < count_at b p → slice_get (fields_at b p) k ≡ Some (field_at b p k)
slice_get-fields_at b p k below =
    let within : k < length (fields_at b p) = omega (arith, length-fields_at b p) in
    slice_get-get_or (fields_at b p) k (field_at b p k) within
    ∙ ap Some (get_or-map-range_with_len (field_at b p) 0 (count_at b p) k k (field_at b p k) below (omega arith))

-- field k, from what was read of its entry
pub field_read : (b : List ℕ) (p k base place size position : ℕ) (tag : List ℕ) → base ≡ base_at b p → place ≡ entry_place b p k
    → size ≡ field_length b p k → position ≡ field_position b p k → tag ≡ bytes_at b place 4
    → field_at b p k ≡ record { tag = tag; bytes = bytes_at b (p + base + position) size }
field_read b p k base place size position tag base_is place_is size_is position_is tag_is = cc
