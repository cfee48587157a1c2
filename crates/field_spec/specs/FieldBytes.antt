-- The bytes of a field: its subfields one after the other, then its terminator (S-57 Part 3, 7.2.2).
use Rattle.std.specs.Prelude.{ℕ, List, [], ◌∷◌, ◌++◌}
use Rattle.std.specs.List.{flat_map}
use Rattle.s57_types.specs.Subfield.{Subfield, row_bytes, field_terminator}
use Rattle.s57_types.specs.RecordFields.{terminator_of}

-- a field of one row
abbrev pub field_bytes : List Subfield → List ℕ
field_bytes row = row_bytes row ++ (field_terminator ∷ [])

-- a field whose row repeats, at a lexical level; with no row it is its terminator
abbrev pub rows_bytes : {X : Type 0} → ℕ → (X → List Subfield) → List X → List ℕ
rows_bytes level row xs = flat_map (λ y. row_bytes (row y)) xs ++ terminator_of level
