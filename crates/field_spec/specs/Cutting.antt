-- Bytes cut into subfields by their forms.
use Rattle.std.specs.Prelude.{ℕ, zero, suc, ◌+◌, ◌-◌, ◌%◌, ◌==◌, ◌&&◌, List, [], ◌∷◌, length, take, drop, position, nat_lt, Option, Some, None, slice_index}
use Rattle.std.specs.Prelude.{if◌then◌else◌}
use Rattle.std.specs.Option.{option_map, option_and_then}
use Rattle.std.specs.Int.{w32, cast_signed}
use Rattle.byteorder.specs.Endian.{little_number}
use Rattle.s57_types.specs.Subfield.{Form, Subfield, unsigned, signed, text, wide_text, fixed, unsigned_of, signed_of, text_of, wide_text_of, fixed_of}
use Rattle.s57_types.specs.Subfield.{unit_terminator, field_terminator}

-- so many bytes, and the bytes after them
abbrev pub split : ℕ → List ℕ → Option (List ℕ × List ℕ)
split n b = if nat_lt (length b) n then None else Some (take n b, drop n b)

-- the two-byte units before the unit terminator, and the bytes after it
abbrev pub split_units : List ℕ → Option (List ℕ × List ℕ)
split_units [] = None
split_units (c ∷ []) = None
split_units (c ∷ d ∷ rest) = if (c == unit_terminator) && (d == 0) then Some ([], rest) else option_map (λ x. (c ∷ d ∷ x.0, x.1)) (split_units rest)

-- the subfield of a form with which the bytes begin, and the bytes after it
abbrev pub front : Form → List ℕ → Option (Subfield × List ℕ)
front (unsigned w) b = option_map (λ x. (unsigned_of w (little_number w x.0), x.1)) (split w b)
front signed b = option_map (λ x. (signed_of (cast_signed w32 (little_number 4 x.0)), x.1)) (split 4 b)
front text b = option_map (λ i. (text_of (take i b), drop (i + 1) b)) (position (λ c. c == unit_terminator) b)
front wide_text b = option_map (λ x. (wide_text_of x.0, x.1)) (split_units b)
front (fixed n) b = option_map (λ x. (fixed_of x.0, x.1)) (split n b)

-- the subfields of these forms with which the bytes begin, and the bytes after them
abbrev pub cut_row : List Form → List ℕ → Option (List Subfield × List ℕ)
cut_row [] b = Some ([], b)
cut_row (form ∷ forms) b = option_and_then (λ x. option_map (λ y. (x.0 ∷ y.0, y.1)) (cut_row forms x.1)) (front form b)

-- the bytes as whole rows of these forms, at most so many
abbrev pub cut_rows : ℕ → List Form → List ℕ → Option (List (List Subfield))
cut_rows n forms [] = Some []
cut_rows zero forms (c ∷ b) = None
cut_rows (suc n) forms (c ∷ b) = option_and_then (λ x. option_map (λ rows. x.0 ∷ rows) (cut_rows n forms x.1)) (cut_row forms (c ∷ b))

-- the bytes before the field terminator, which is the last
abbrev pub before_terminator : List ℕ → Option (List ℕ)
before_terminator b = if nat_lt 0 (length b) && (slice_index b (length b - 1) == field_terminator) then Some (take (length b - 1) b) else None

-- the same where texts have two-byte units: rows then have even length, and a terminator of one byte is taken too
abbrev pub before_wide_terminator : List ℕ → Option (List ℕ)
before_wide_terminator b = if length b % 2 == 1 then before_terminator b else
    (if nat_lt 1 (length b) && (slice_index b (length b - 2) == field_terminator) && (slice_index b (length b - 1) == 0) then Some
    (take (length b - 2) b) else None)

abbrev pub body_at_level : ℕ → List ℕ → Option (List ℕ)
body_at_level level b = if level == 2 then before_wide_terminator b else before_terminator b

-- what was cut, where no bytes are left
abbrev pub whole : {X : Type 0} → Option (X × List ℕ) → Option X
whole cut = option_and_then (λ x. if length x.1 == 0 then Some x.0 else None) cut

-- the row of a field of one row
abbrev pub field_row : List Form → List ℕ → Option (List Subfield)
field_row forms b = option_and_then (λ body. whole (cut_row forms body)) (before_terminator b)

-- the rows of a field of rows; each has at least one byte
abbrev pub field_rows : ℕ → List Form → List ℕ → Option (List (List Subfield))
field_rows level forms b = option_and_then (λ body. cut_rows (length body) forms body) (body_at_level level b)
