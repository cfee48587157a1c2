-- Subfields and their spelling in the binary implementation (S-57 Part 3, 2.5 and 7.2.2).
use Rattle.std.specs.Prelude.{◌≡◌, ℕ, ◌^◌, ◌<◌, ◌%◌, ◌==◌, ◌&&◌, ◌||◌, Bool, true, false, not, List, [], ◌∷◌, ◌++◌, length}
use Rattle.std.specs.Prelude.{ℤ}
use Rattle.std.specs.List.{flat_map, list_any}
use Rattle.std.specs.Int.{w32, cast_unsigned, bytes_low_first}
use Rattle.std.specs.Prelude.{FitsSigned}

-- the unit terminator, which ends a text, and the field terminator
abbrev pub unit_terminator : ℕ
unit_terminator = 31

abbrev pub field_terminator : ℕ
field_terminator = 30

-- the forms of subfields: an unsigned number of so many bytes (b11, b12, b14), a signed number of four bytes (b24), a
-- text up to its terminator (A), the same in two-byte units (lexical level 2), and a text of so many bytes (A(n), R(n))
pub data Form : Type 0 where
  unsigned : ℕ → Form
  signed : Form
  text : Form
  wide_text : Form
  fixed : ℕ → Form

abbrev pub b11 : Form
b11 = unsigned 1

abbrev pub b12 : Form
b12 = unsigned 2

abbrev pub b14 : Form
b14 = unsigned 4

-- a subfield: a number with its bytes, a signed number, a text without its terminator, or a text of its own length
pub data Subfield : Type 0 where
  unsigned_of : ℕ → ℕ → Subfield
  signed_of : ℤ → Subfield
  text_of : List ℕ → Subfield
  wide_text_of : List ℕ → Subfield
  fixed_of : List ℕ → Subfield

abbrev pub form_of : Subfield → Form
form_of (unsigned_of w n) = unsigned w
form_of (signed_of z) = signed
form_of (text_of t) = text
form_of (wide_text_of t) = wide_text
form_of (fixed_of t) = fixed (length t)

-- numbers have their least significant byte first
abbrev pub spelling : Subfield → List ℕ
spelling (unsigned_of w n) = bytes_low_first 0 w n
spelling (signed_of z) = bytes_low_first 0 4 (cast_unsigned w32 z)
spelling (text_of t) = t ++ (unit_terminator ∷ [])
spelling (wide_text_of t) = t ++ (unit_terminator ∷ 0 ∷ [])
spelling (fixed_of t) = t

-- the subfields of a row one after the other
abbrev pub row_bytes : List Subfield → List ℕ
row_bytes = flat_map spelling

abbrev pub holds : ℕ → List ℕ → Bool
holds b = list_any (λ c. c == b)

-- one of the two-byte units has this low byte and the high byte 0
abbrev pub has_unit : ℕ → List ℕ → Bool
has_unit low [] = false
has_unit low (a ∷ []) = false
has_unit low (a ∷ b ∷ rest) = ((a == low) && (b == 0)) || has_unit low rest

-- the value fits its form: a text has no terminator in it
abbrev pub IsSubfield : Subfield → Type 0
IsSubfield (unsigned_of w n) = n < 256 ^ w
IsSubfield (signed_of z) = FitsSigned w32 z
IsSubfield (text_of t) = holds unit_terminator t ≡ false
IsSubfield (wide_text_of t) = (length t % 2 ≡ 0) × (has_unit unit_terminator t ≡ false)
IsSubfield (fixed_of t) = Unit {0}

-- no control byte of the format stands in a text
abbrev pub is_plain : Subfield → Bool
is_plain (unsigned_of w n) = true
is_plain (signed_of z) = true
is_plain (text_of t) = not (holds field_terminator t || holds unit_terminator t)
is_plain (wide_text_of t) = (length t % 2 == 0) && not (has_unit field_terminator t || has_unit unit_terminator t)
is_plain (fixed_of t) = not (holds field_terminator t || holds unit_terminator t)
