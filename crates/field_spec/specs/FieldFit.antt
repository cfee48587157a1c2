-- Forms by which a field's rows are told apart, and rows that can be written.
use Rattle.std.specs.Prelude.{◌≡◌, ℕ, ◌%◌, ◌==◌, Bool, true, false, nat_lt, List, if◌then◌else◌}
use Rattle.std.specs.List.{list_all, list_any}
use Rattle.s57_types.specs.Subfield.{Form, Subfield, unsigned, signed, text, wide_text, fixed, is_plain}
use Rattle.field_spec.specs.FieldContent.{IsRow}

-- the spelling of a subfield of this form has at least one byte
abbrev pub takes_bytes : Form → Bool
takes_bytes (unsigned w) = nat_lt 0 w
takes_bytes signed = true
takes_bytes text = true
takes_bytes wide_text = true
takes_bytes (fixed n) = nat_lt 0 n

-- and so that of a row
abbrev pub has_bytes : List Form → Bool
has_bytes = list_any takes_bytes

-- the spelling of a subfield of this form has an even number of bytes
abbrev pub is_even : Form → Bool
is_even (unsigned w) = w % 2 == 0
is_even signed = true
is_even text = false
is_even wide_text = true
is_even (fixed n) = n % 2 == 0

-- behind two-byte texts a field's length tells whether its terminator has one byte or two, since its rows are even
abbrev pub fits_level : ℕ → List Form → Bool
fits_level level forms = if level == 2 then list_all is_even forms else true

-- a field whose row has these forms can be cut into its rows at a lexical level
pub record CanRepeat (level : ℕ) (forms : List Form) : Type 0 where
  pub takes : has_bytes forms ≡ true
  pub fits : fits_level level forms ≡ true

-- a row of these forms with no control byte in its texts
pub record IsFit (forms : List Form) (row : List Subfield) : Type 0 where
  pub is_row : IsRow forms row
  pub has_plain_texts : list_all is_plain row ≡ true
