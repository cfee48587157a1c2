-- The bytes that spell a value in a field: the value's subfields one after the other, with no control byte of the format in a
-- text, and then a terminator (S-57 Part 3, 2.5 and 7.2.2).
use Rattle.std.specs.Prelude.{◌≡◌, ℕ, true, List}
use Rattle.std.specs.List.{list_all}
use Rattle.s57_types.specs.Subfield.{Form, Subfield, is_plain}
use Rattle.field_spec.specs.FieldContent.{IsField, IsFieldOfRows}

-- a field of one row
pub record SpellsRow (forms : List Form) (row : List Subfield) (bytes : List ℕ) : Type 0 where
  pub is_field : IsField forms bytes row
  pub has_plain_texts : list_all is_plain row ≡ true

-- a field of any number of rows, also of none, at a lexical level; behind two-byte texts the terminator has two bytes, or one
pub record SpellsRows (level : ℕ) (forms : List Form) (rows : List (List Subfield)) (bytes : List ℕ) : Type 0 where
  pub is_field : IsFieldOfRows level forms bytes rows
  pub has_plain_texts : list_all (list_all is_plain) rows ≡ true
