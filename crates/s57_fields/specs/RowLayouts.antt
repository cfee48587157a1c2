-- How the rows of each field whose row repeats are laid out (S-57 Part 3, 7.6 and 7.7).
use Rattle.std.specs.Prelude.{ℕ, ℤ, Bool, List}
use Rattle.s57_types.specs.Subfield.{Form, Subfield, row_bytes}
use Rattle.s57_types.specs.FieldRows.{attribute_forms, attribute_row, partner_forms, partner_row, place_forms, place_row, end_forms, end_row}
use Rattle.s57_types.specs.FieldRows.{plane_forms, plane_row, deep_forms, deep_row}
use Rattle.s57_types.specs.declared.record.Attr.{Attr}
use Rattle.s57_types.specs.declared.record.End.{End}
use Rattle.s57_types.specs.declared.record.Spot.{Spot}
use Rattle.s57_types.specs.declared.record.Partner.{Partner}
use Rattle.field_spec.specs.Contents.{any_row, names_a_vector, attribute_value, partner_value, place_value, end_value, plane_value, deep_value}

-- the forms of a row's subfields, which rows the field may have, the value of a row, and the subfields of a value
pub record RowLayout (X : Type 0) : Type 0 where
  pub forms : List Form
  pub good : List Subfield → Bool
  pub value : List Subfield → X
  pub subfields : X → List Subfield

-- the bytes that spell a value
abbrev pub row_spelling : {X : Type 0} → RowLayout X → X → List ℕ
row_spelling layout x = row_bytes (layout.subfields x)

-- at a lexical level
abbrev pub attribute_layout : ℕ → RowLayout Attr
attribute_layout level = record { forms = attribute_forms level; good = any_row; value = attribute_value; subfields = attribute_row level }

abbrev pub partner_layout : RowLayout Partner
partner_layout = record { forms = partner_forms; good = any_row; value = partner_value; subfields = partner_row }

abbrev pub place_layout : RowLayout Spot
place_layout = record { forms = place_forms; good = names_a_vector; value = place_value; subfields = place_row }

abbrev pub end_layout : RowLayout End
end_layout = record { forms = end_forms; good = names_a_vector; value = end_value; subfields = end_row }

abbrev pub plane_layout : RowLayout (ℤ × ℤ)
plane_layout = record { forms = plane_forms; good = any_row; value = plane_value; subfields = plane_row }

abbrev pub deep_layout : RowLayout (ℤ × ℤ × ℤ)
deep_layout = record { forms = deep_forms; good = any_row; value = deep_value; subfields = deep_row }
