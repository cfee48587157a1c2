-- A text as the content of an XML element (XML 1.0, 2.2 and 2.4). This project's own choice of references.
use Rattle.std.specs.Prelude.{ℕ, ◌==◌, ◌&&◌, ◌||◌, ◌++◌, ◌∷◌, [], Bool, not, List, nat_le, nat_lt, codes, if◌then◌else◌}
use Rattle.std.specs.Fmt.{decimal}
use Rattle.std.specs.List.{flat_map}

-- an ampersand, a less-than or a greater-than sign, a quotation mark, an apostrophe
abbrev pub is_markup : ℕ → Bool
is_markup b = (b == 38) || ((b == 60) || ((b == 62) || ((b == 34) || (b == 39))))

-- a line feed, or a printed byte of ASCII that isn't markup
abbrev pub is_plain : ℕ → Bool
is_plain b = (b == 10) || (nat_le 32 b && (nat_lt b 127 && not (is_markup b)))

-- the character that a byte is referred to by: its own, and for a control that XML has none for the replacement character
abbrev pub referred : ℕ → ℕ
referred b = if nat_lt b 32 then 65533 else b

-- a byte: itself, or a reference by number
abbrev pub escaped_byte : ℕ → List ℕ
escaped_byte b = if is_plain b then b ∷ [] else codes "&#" ++ decimal (referred b) ++ codes ";"

abbrev pub escaped : List ℕ → List ℕ
escaped = flat_map escaped_byte
