-- Subfields to write, as the subfields that they spell.
use Rattle.std.specs.Prelude.{List, map}
use Rattle.s57_types.specs.Subfield.{Subfield, unsigned_of, text_of, wide_text_of, fixed_of}
use Rattle.s57_fields.specs.declared.spell.Value.{Value}
use Rattle.s57_fields.specs.declared.spell.Value.TheVariants.{Byte, Short, Long, Text, WideText, Fixed}

abbrev pub subfield_of : Value → Subfield
subfield_of (Byte n) = unsigned_of 1 n
subfield_of (Short n) = unsigned_of 2 n
subfield_of (Long n) = unsigned_of 4 n
subfield_of (Text t) = text_of t.now
subfield_of (WideText t) = wide_text_of t.now
subfield_of (Fixed t) = fixed_of t.now

abbrev pub row_of : List Value → List Subfield
row_of = map subfield_of
