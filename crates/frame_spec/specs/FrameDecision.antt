-- The record at a place, or its first fault, by tests that compute.
use Rattle.std.specs.Prelude.{ℕ, ◌+◌, ◌-◌, ◌%◌, ◌==◌, ◌&&◌, Bool, List, length, nat_lt, nat_le, not, slice_index, Result, Ok, Err, if◌then◌else◌}
use Rattle.std.specs.List.{list_all, range_with_len}
use Rattle.frame_spec.specs.RecordFrame.{FrameView, bytes_at, kind_of, length_at, base_at, length_text, position_text, field_length, field_position}
use Rattle.frame_spec.specs.RecordFrame.{entry_size_at, count_at, fields_at}
use Rattle.frame_spec.specs.declared.fault.FrameFault.{FrameFault}
use Rattle.frame_spec.specs.declared.fault.FrameFault.TheVariants.{Short, BadLeader, BadDirectory}

abbrev pub is_digit : ℕ → Bool
is_digit c = nat_le 48 c && nat_le c 57

abbrev pub is_size : ℕ → Bool
is_size c = nat_le 49 c && nat_le c 57

unfoldable pub is_leader : List ℕ → ℕ → Bool → Bool
is_leader b p first = list_all is_digit (bytes_at b p 5) && (slice_index b (p + 6) == kind_of first) && list_all is_digit (bytes_at b (p + 12) 5)
    && is_size (slice_index b (p + 20)) && is_size (slice_index b (p + 21)) && (slice_index b (p + 23) == 52)
    && nat_le 25 (base_at b p) && nat_le (base_at b p) (length_at b p)

unfoldable pub is_entry : List ℕ → ℕ → ℕ → Bool
is_entry b p k = list_all is_digit (length_text b p k) && list_all is_digit (position_text b p k) && nat_lt 0 (field_length b p k)
    && nat_le (base_at b p + field_position b p k + field_length b p k) (length_at b p)

unfoldable pub is_directory : List ℕ → ℕ → Bool
is_directory b p = (slice_index b (p + base_at b p - 1) == 30) && ((base_at b p - 25) % entry_size_at b p == 0) && list_all
    (is_entry b p) (range_with_len 0 (count_at b p))

abbrev pub record_at : List ℕ → ℕ → FrameView
record_at b p = record { length = length_at b p; fields = fields_at b p }

-- the record at p, or the first test that it fails: the bytes of the leader, the leader, the bytes of the record, the
-- directory
unfoldable pub frame_at : List ℕ → ℕ → Bool → Result FrameView FrameFault
frame_at b p first =
    if nat_lt (length b) (p + 24) then Err Short else
    (if not (is_leader b p first) then Err BadLeader else
    (if nat_lt (length b) (p + length_at b p) then Err Short else
    (if not (is_directory b p) then Err BadDirectory else Ok (record_at b p))))
