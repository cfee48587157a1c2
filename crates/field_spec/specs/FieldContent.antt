-- The content of a field as a relation: its bytes are its subfields one after the other, then its terminator.
use Rattle.std.specs.Prelude.{◌≡◌, ◌⊎◌, ℕ, ◌==◌, List, [], ◌∷◌, ◌++◌, map}
use Rattle.std.specs.Bool.{MatchBool}
use Rattle.std.specs.List.{flat_map, AllByRecursion}
use Rattle.s57_types.specs.Subfield.{Form, Subfield, form_of, row_bytes, IsSubfield, field_terminator}

-- a row of subfields of these forms
pub record IsRow (forms : List Form) (row : List Subfield) : Type 0 where
  pub forms_are : map form_of row ≡ forms
  pub each : AllByRecursion IsSubfield row

-- the field of one row
pub record IsField (forms : List Form) (bytes : List ℕ) (row : List Subfield) : Type 0 where
  pub is_row : IsRow forms row
  pub bytes_are : bytes ≡ row_bytes row ++ (field_terminator ∷ [])

-- the field of rows at a lexical level; behind two-byte texts the terminator has two bytes, or one
pub record IsFieldOfRows (level : ℕ) (forms : List Form) (bytes : List ℕ) (rows : List (List Subfield)) : Type 0 where
  pub each : AllByRecursion (IsRow forms) rows
  pub bytes_are : MatchBool (level == 2)
      ((bytes ≡ flat_map row_bytes rows ++ (field_terminator ∷ 0 ∷ [])) ⊎ (bytes ≡ flat_map row_bytes rows ++ (field_terminator ∷ [])))
      (bytes ≡ flat_map row_bytes rows ++ (field_terminator ∷ []))
