-- Rows cut and judged one after the other.
use Rattle.std.specs.Prelude.{ℕ, zero, suc, ◌&&◌, Bool, true, List, [], ◌∷◌, ◌++◌, Option, Some, None, Result, Ok, Err, if◌then◌else◌}
use Rattle.std.specs.Option.{option_and_then}
use Rattle.std.specs.List.{list_all}
use Rattle.s57_types.specs.Subfield.{Subfield, is_plain}
use Rattle.field_spec.specs.Cutting.{cut_row}
use Rattle.field_spec.specs.Contents.{rows_as}
use Rattle.field_spec.specs.declared.fault.FieldFault.{FieldFault}
use Rattle.field_spec.specs.declared.fault.FieldFault.TheVariants as fault
use Rattle.s57_fields.specs.RowLayouts.{RowLayout}

-- the first row as a value, whether its texts are plain, and the bytes after it
abbrev pub take_row : {X : Type 0} → RowLayout X → List ℕ → Option (X × Bool × List ℕ)
take_row {X} layout b = option_and_then (λ (x : List Subfield × List ℕ). if layout.good x.0 then Some
    (layout.value x.0, list_all is_plain x.0, x.1) else None) (cut_row layout.forms b)

-- values in front of more values, and whether all texts are plain
abbrev pub with_front : {X : Type 0} → List X → Bool → Option (List X × Bool) → Option (List X × Bool)
with_front front plain None = None
with_front front plain (Some rows) = Some (front ++ rows.0, plain && rows.1)

-- the first row and the others
abbrev pub rows_after : {X : Type 0} → (List ℕ → Option (List X × Bool)) → Option (X × Bool × List ℕ) → Option (List X × Bool)
rows_after others None = None
rows_after others (Some row) = with_front (row.0 ∷ []) row.1 (others row.2)

-- the rows with which a field's bytes before its terminator are used up, at most so many, and whether all texts are plain
unfoldable pub rows_from : {X : Type 0} → RowLayout X → ℕ → List ℕ → Option (List X × Bool)
rows_from layout n [] = Some ([], true)
rows_from layout zero (c ∷ b) = None
rows_from layout (suc n) (c ∷ b) = rows_after (rows_from layout n) (take_row layout (c ∷ b))

-- rows as the content of a field
abbrev pub content_of_rows : {X : Type 0} → Option (List X × Bool) → Result (List X) FieldFault
content_of_rows None = Err fault.BadField
content_of_rows (Some rows) = if rows.1 then Ok rows.0 else Err fault.BadText

-- what the bytes of a field say whose rows are laid out so at a lexical level
abbrev pub field_content : {X : Type 0} → RowLayout X → ℕ → List ℕ → Result (List X) FieldFault
field_content layout level b = rows_as layout.value level layout.forms layout.good b
