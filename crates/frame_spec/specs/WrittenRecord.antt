-- The bytes of a record that is written: the leader, the directory and the field area (ISO/IEC 8211; S-57 Part 3, Annex A).
-- The writer gives the entry map the digits of the greatest field length and of the greatest position, and writes the
-- fields one after the other, which is this project's own choice.
use Rattle.std.specs.Prelude.{◌≡◌, ℕ, zero, suc, ◌+◌, ◌<◌, ◌≤◌, ◌-◌, ◌*◌, ◌/◌, ◌%◌, Bool, List, [], ◌∷◌, ◌++◌, length, take, map, All, max, sum, fold, codes}
use Rattle.std.specs.Prelude.{if◌then◌else◌}
use Rattle.std.specs.List.{flat_map}
use Rattle.std.specs.Fmt.{decimal}
use Rattle.frame_spec.specs.RecordFrame.{Field, RecordFrame, bytes_at}

-- so many decimal digits of a number
abbrev pub digits : ℕ → ℕ → List ℕ
digits zero n = []
digits (suc w) n = digits w (n / 10) ++ ((48 + n % 10) ∷ [])

-- how many decimal digits a number has
abbrev pub digit_count : ℕ → ℕ
digit_count n = length (decimal n)

-- the digits that the directory gives to the lengths and to the positions of fields of these lengths
abbrev pub length_digits : List ℕ → ℕ
length_digits lengths = digit_count (fold max 0 lengths)

abbrev pub position_digits : List ℕ → ℕ
position_digits lengths = digit_count (sum (take (length lengths - 1) lengths))

-- the base address: the leader, an entry for each field, and a terminator
abbrev pub base_address : List ℕ → ℕ
base_address lengths = 25 + length lengths * (4 + length_digits lengths + position_digits lengths)

-- how many bytes a record of fields of these lengths takes
abbrev pub record_length : List ℕ → ℕ
record_length lengths = base_address lengths + sum lengths

abbrev pub field_lengths : List Field → List ℕ
field_lengths = map (λ field. length field.bytes)

abbrev pub field_area : List Field → List ℕ
field_area = flat_map (λ field. field.bytes)

-- the directory's entries of fields whose bytes begin at a position, with m and n digits
abbrev pub directory_entries : ℕ → ℕ → ℕ → List Field → List ℕ
directory_entries m n position [] = []
directory_entries m n position (field ∷ fields) =
    field.tag ++ digits m (length field.bytes) ++ digits n position ++ directory_entries m n (position + length field.bytes) fields

-- the bytes of a leader between its numbers, of the data descriptive record and of the others
abbrev pub identifier_text : Bool → List ℕ
identifier_text first = if first then codes "3LE1 09" else codes " D     "

abbrev pub character_set_text : Bool → List ℕ
character_set_text first = if first then codes " ! " else codes "   "

abbrev pub leader_text : Bool → List ℕ → List ℕ
leader_text first lengths = digits 5 (record_length lengths) ++ identifier_text first ++ digits 5 (base_address lengths) ++ character_set_text first
    ++ ((48 + length_digits lengths) ∷ (48 + position_digits lengths) ∷ 48 ∷ 52 ∷ [])

-- the record of these fields
unfoldable pub written_record : Bool → List Field → List ℕ
written_record first fields = let lengths = field_lengths fields in
    leader_text first lengths ++ directory_entries (length_digits lengths) (position_digits lengths) 0 fields ++ (30 ∷ []) ++ field_area fields

-- the bytes stand at a place
abbrev pub StandsAt : List ℕ → ℕ → List ℕ → Type 0
StandsAt b p bytes = bytes_at b p (length bytes) ≡ bytes

-- fields that a record can be written with: tags of four bytes, no empty field, and no more bytes than five digits say
pub record CanBeWritten (fields : List Field) : Type 0 where
  pub tags : All (λ field. length field.tag ≡ 4) fields
  pub not_empty : All (λ field. 0 < length field.bytes) fields
  pub fits : record_length (field_lengths fields) ≤ 99999

-- where the bytes of a record stand, the record stands
abbrev pub WrittenIsRead : Type 0
WrittenIsRead = (b : List ℕ) (p : ℕ) (first : Bool) (fields : List Field) → CanBeWritten fields → StandsAt b p (written_record first fields)
    → RecordFrame b p first (record { length = record_length (field_lengths fields); fields = fields })

abbrev pub WrittenHasLength : Type 0
WrittenHasLength = (first : Bool) (fields : List Field) → CanBeWritten fields → length (written_record first fields) ≡ record_length (field_lengths fields)
