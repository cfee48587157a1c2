-- Where the number of a mark stands. This project's own: fields of the picture, taken along rows that run to and fro, so that the next is beside.
use Rattle.std.specs.Prelude.{ℕ, ◌+◌, ◌-◌, ◌*◌, ◌/◌, ◌%◌, ◌==◌, Bool, not, List, [], ◌∷◌, Option, None, Some, length, find, min, slice_index_or, if◌then◌else◌}
use Rattle.std.specs.List.{list_any, range_with_len}
use Rattle.std.specs.Option.{option_map_or}
use Rattle.picture_places.specs.declared.page.PagePoint.{PagePoint}
use Rattle.picture_places.specs.declared.page.TheConstants.{PAGE_LEFT, PAGE_TOP}
use Rattle.picture_places.specs.declared.label.TheConstants.{COLUMNS, FIELDS, FIELD_HEIGHT, FIELD_WIDTH, ROWS}
use Rattle.picture_places.specs.Strokes.{Stroke}

abbrev pub half_way : PagePoint → PagePoint → PagePoint
half_way p q = record { x = (p.x + q.x) / 2; y = (p.y + q.y) / 2 }

-- the middle of a stroke: half way between its two middle points
abbrev pub point_at : Stroke → ℕ → PagePoint
point_at stroke k = slice_index_or stroke k (record { x = 0; y = 0 })

abbrev pub middle_of : Stroke → Option PagePoint
middle_of stroke =
    if length stroke == 0 then None else Some (half_way (point_at stroke ((length stroke - 1) / 2)) (point_at stroke (length stroke / 2)))

abbrev pub or_else : Option PagePoint → Option PagePoint → Option PagePoint
or_else None other = other
or_else (Some p) other = Some p

-- where a mark is held: the middle of its first stroke
abbrev pub anchor_of : List Stroke → Option PagePoint
anchor_of [] = None
anchor_of (stroke ∷ rest) = or_else (middle_of stroke) (anchor_of rest)

-- a column of the row that runs to and fro
abbrev pub turned : ℕ → ℕ → ℕ
turned row column = if row % 2 == 0 then column else COLUMNS - 1 - column

-- the number of the field that holds a point
abbrev pub field_of : PagePoint → ℕ
field_of p =
    let row = min ((p.y - PAGE_TOP) / FIELD_HEIGHT) (ROWS - 1) in row * COLUMNS + turned row (min ((p.x - PAGE_LEFT) / FIELD_WIDTH) (COLUMNS - 1))

-- the middle of a field, where a number is written
abbrev pub label_point : ℕ → PagePoint
label_point field = record {
  x = PAGE_LEFT + turned (field / COLUMNS) (field % COLUMNS) * FIELD_WIDTH + FIELD_WIDTH / 2;
  y = PAGE_TOP + field / COLUMNS * FIELD_HEIGHT + FIELD_HEIGHT / 2;
}

abbrev pub is_free : List ℕ → ℕ → Bool
is_free taken field = not (list_any (λ other. other == field) taken)

-- the fields behind one, and last itself
abbrev pub field_behind : ℕ → ℕ → ℕ
field_behind home k = (home + k + 1) % FIELDS

-- the first that isn't taken, of those behind one from a number of them to another; where all are, the one itself
abbrev pub free_from : List ℕ → ℕ → ℕ → ℕ → ℕ
free_from taken home from many = option_map_or (field_behind home) (find (λ k. is_free taken (field_behind home k)) (range_with_len from many)) home

abbrev pub free_field : List ℕ → ℕ → ℕ
free_field taken home = free_from taken home 0 FIELDS
