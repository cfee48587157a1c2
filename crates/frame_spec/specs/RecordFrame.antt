-- A record of an ISO/IEC 8211 file, told by the places of its bytes in the file (S-57 Part 3, Annex A, restates the
-- leader, the directory and the field area).
use Rattle.std.specs.Prelude.{◌≡◌, ℕ, ◌+◌, ◌-◌, ◌*◌, ◌/◌, ◌%◌, ◌<◌, ◌≤◌, Bool, List, length, map, fold, All, slice_index, slice_range, if◌then◌else◌}
use Rattle.std.specs.Char.{IsAsciiDigit}
use Rattle.std.specs.List.{range_with_len}

-- a field of a record: its tag and its bytes, terminator included
pub record Field : Type 0 where
  pub tag : List ℕ
  pub bytes : List ℕ

-- a record: how many bytes it takes, and its fields
pub record FrameView : Type 0 where
  pub length : ℕ
  pub fields : List Field

-- n bytes from place i
abbrev pub bytes_at : List ℕ → ℕ → ℕ → List ℕ
bytes_at b i n = slice_range b i (i + n)

abbrev pub AreDigits : List ℕ → Type 0
AreDigits = All IsAsciiDigit

-- the number that decimal digits write
abbrev pub decimal_value : List ℕ → ℕ
decimal_value = fold (λ n c. n * 10 + (c - 48)) 0

-- from 1 to 9, as a digit
pub record IsSize (c : ℕ) : Type 0 where
  pub low : 49 ≤ c
  pub high : c ≤ 57

-- the leader says the record's length in bytes 0 to 4, and the base address of its field area in bytes 12 to 16
abbrev pub length_at : List ℕ → ℕ → ℕ
length_at b p = decimal_value (bytes_at b p 5)

abbrev pub base_at : List ℕ → ℕ → ℕ
base_at b p = decimal_value (bytes_at b (p + 12) 5)

-- the entry map, leader bytes 20 and 21: how many digits the directory gives to a field's length, and to its position
abbrev pub length_size_at : List ℕ → ℕ → ℕ
length_size_at b p = slice_index b (p + 20) - 48

abbrev pub position_size_at : List ℕ → ℕ → ℕ
position_size_at b p = slice_index b (p + 21) - 48

-- the bytes of one entry of the directory, and how many entries it has
abbrev pub entry_size_at : List ℕ → ℕ → ℕ
entry_size_at b p = 4 + length_size_at b p + position_size_at b p

abbrev pub count_at : List ℕ → ℕ → ℕ
count_at b p = (base_at b p - 25) / entry_size_at b p

-- the leader identifier, byte 6: `L` in the data descriptive record, which is the first, `D` in the later ones
abbrev pub kind_of : Bool → ℕ
kind_of first = if first then 76 else 68

-- the leader of the record at p; byte 23 gives tags of four bytes
pub record IsLeader (b : List ℕ) (p : ℕ) (first : Bool) : Type 0 where
  pub length_digits : AreDigits (bytes_at b p 5)
  pub kind : slice_index b (p + 6) ≡ kind_of first
  pub base_digits : AreDigits (bytes_at b (p + 12) 5)
  pub length_size : IsSize (slice_index b (p + 20))
  pub position_size : IsSize (slice_index b (p + 21))
  pub tag_size : slice_index b (p + 23) ≡ 52
  pub base_above : 25 ≤ base_at b p
  pub base_within : base_at b p ≤ length_at b p

-- where entry k of the directory begins, which follows the leader
abbrev pub entry_place : List ℕ → ℕ → ℕ → ℕ
entry_place b p k = p + 24 + k * entry_size_at b p

-- what entry k says: the field's tag, its length with its terminator, and its position after the base address
abbrev pub field_tag : List ℕ → ℕ → ℕ → List ℕ
field_tag b p k = bytes_at b (entry_place b p k) 4

abbrev pub length_text : List ℕ → ℕ → ℕ → List ℕ
length_text b p k = bytes_at b (entry_place b p k + 4) (length_size_at b p)

abbrev pub position_text : List ℕ → ℕ → ℕ → List ℕ
position_text b p k = bytes_at b (entry_place b p k + 4 + length_size_at b p) (position_size_at b p)

abbrev pub field_length : List ℕ → ℕ → ℕ → ℕ
field_length b p k = decimal_value (length_text b p k)

abbrev pub field_position : List ℕ → ℕ → ℕ → ℕ
field_position b p k = decimal_value (position_text b p k)

-- field k of the record at p
abbrev pub field_at : List ℕ → ℕ → ℕ → Field
field_at b p k = record {
  tag = field_tag b p k;
  bytes = bytes_at b (p + base_at b p + field_position b p k) (field_length b p k);
}

abbrev pub fields_at : List ℕ → ℕ → List Field
fields_at b p = map (field_at b p) (range_with_len 0 (count_at b p))

-- entry k of the directory
pub record IsEntry (b : List ℕ) (p k : ℕ) : Type 0 where
  pub length_digits : AreDigits (length_text b p k)
  pub position_digits : AreDigits (position_text b p k)
  pub not_empty : 0 < field_length b p k
  pub within : base_at b p + field_position b p k + field_length b p k ≤ length_at b p

-- the directory of the record at p: it ends with the field terminator, just before the base address, and its entries
-- fill it
pub record IsDirectory (b : List ℕ) (p : ℕ) : Type 0 where
  pub closed : slice_index b (p + base_at b p - 1) ≡ 30
  pub whole : (base_at b p - 25) % entry_size_at b p ≡ 0
  pub entries : (k : ℕ) → k < count_at b p → IsEntry b p k

-- the record of b at place p. Fields may overlap and need not cover the field area; a frame doesn't look at the
-- terminators of fields
pub record RecordFrame (b : List ℕ) (p : ℕ) (first : Bool) (frame : FrameView) : Type 0 where
  pub leader_fits : p + 24 ≤ length b
  pub leader : IsLeader b p first
  pub fits : p + length_at b p ≤ length b
  pub directory : IsDirectory b p
  pub length_is : frame.length ≡ length_at b p
  pub fields_are : frame.fields ≡ fields_at b p

-- fewer bytes are left than the leader takes, or than a good leader says
pub data IsShort (b : List ℕ) (p : ℕ) (first : Bool) : Type 0 where
  in_leader : length b < p + 24 → IsShort b p first
  in_record : p + 24 ≤ length b → IsLeader b p first → length b < p + length_at b p → IsShort b p first

-- the leader is there and is none
pub record IsBadLeader (b : List ℕ) (p : ℕ) (first : Bool) : Type 0 where
  pub leader_fits : p + 24 ≤ length b
  pub no_leader : IsLeader b p first → ⊥

-- all of the record is there, and its directory is none
pub record IsBadDirectory (b : List ℕ) (p : ℕ) (first : Bool) : Type 0 where
  pub leader_fits : p + 24 ≤ length b
  pub leader : IsLeader b p first
  pub fits : p + length_at b p ≤ length b
  pub no_directory : IsDirectory b p → ⊥
