-- What holds of every picture. This project's own.
use Rattle.std.specs.Prelude.{◌≡◌, ℕ, ◌<◌, ◌||◌, ◌==◌, Bool, true, false, List, [], Option, None, Some, filter, filter_map, is_some, length, map, nat_le}
use Rattle.std.specs.Prelude.{if◌then◌else◌}
use Rattle.std.specs.List.{All, enumerate_from}
use Rattle.s57_types.specs.declared.cell.Cell.{Cell}
use Rattle.s57_types.specs.declared.name.RecName.{RecName}
use Rattle.s57_types.specs.declared.record.Rec.{Rec}
use Rattle.s57_types.specs.declared.record.Rec.TheVariants.{V, F, H}
use Rattle.cell_findings.specs.Rows.{line_of}
use Rattle.cell_findings.specs.declared.list.SubjectFinding.{SubjectFinding}
use Rattle.cell_spec.specs.Lookup.{name_of}
use Rattle.geometry_spec.specs.declared.tile.Box4.{Box4}
use Rattle.rule_spec.specs.Features.{is_coverage_area, is_group1_area}
use Rattle.cell_picture.specs.declared.shape.TheConstants.{MARK_LIMIT}
use Rattle.cell_picture.specs.Escapes.{escaped}
use Rattle.picture_places.specs.Labels.{anchor_of}
use Rattle.cell_picture.specs.Shapes.{Shape, drawing_order, figure, mark, place_of, row, shapes, spot}

-- the record that a shape draws, the line of the finding that it marks, the number by which it does, and number and line of a row
abbrev pub name_drawn : Shape → Option RecName
name_drawn (figure f) = Some f.name
name_drawn (mark m) = None
name_drawn (spot line p) = None
name_drawn (row r) = None

abbrev pub line_marked : Shape → Option (List ℕ)
line_marked (figure f) = None
line_marked (mark m) = Some m.line
line_marked (spot line p) = Some line
line_marked (row r) = None

abbrev pub number_marked : Shape → Option (ℕ × List ℕ)
number_marked (figure f) = None
number_marked (mark m) = Some (m.number, m.line)
number_marked (spot line p) = None
number_marked (row r) = None

abbrev pub row_listed : Shape → Option (ℕ × List ℕ)
row_listed (figure f) = None
row_listed (mark m) = None
row_listed (spot line p) = None
row_listed (row r) = Some (r.number, r.line)

-- the records that are drawn: nodes, edges, and areas of Group 1 and of coverage
abbrev pub is_drawn : Rec → Bool
is_drawn (V v) = true
is_drawn (F f) = is_group1_area f || is_coverage_area f
is_drawn (H h) = false

abbrev pub is_somewhere : Cell → Box4 → SubjectFinding → Bool
is_somewhere c around f = is_some (anchor_of (place_of c around f))

-- a finding with its number, and its line with that
abbrev pub is_numbered_somewhere : Cell → Box4 → ℕ × SubjectFinding → Bool
is_numbered_somewhere c around f = is_somewhere c around f.1

abbrev pub numbered_line : ℕ × SubjectFinding → ℕ × List ℕ
numbered_line f = (f.0, line_of f.1)

-- the numbers of marks, where there aren't too many: those of the list
abbrev pub numbered_marks : Cell → Box4 → List SubjectFinding → List (ℕ × List ℕ)
numbered_marks c around fs =
    if nat_le (length fs) MARK_LIMIT then map numbered_line (filter (is_numbered_somewhere c around) (enumerate_from 1 fs)) else []

-- each record that is drawn is drawn once, each finding that is anywhere is marked once, where there aren't too many by its number, and each finding
-- is listed once by its number, all in their order
pub record IsEachOnce (c : Cell) (around : Box4) (fs : List SubjectFinding) (drawn : List Shape) : Type 0 where
  pub records : filter_map name_drawn drawn ≡ map name_of (filter is_drawn (drawing_order c))
  pub marks : filter_map line_marked drawn ≡ map line_of (filter (is_somewhere c around) fs)
  pub numbers : filter_map number_marked drawn ≡ numbered_marks c around fs
  pub rows : filter_map row_listed drawn ≡ map numbered_line (enumerate_from 1 fs)

abbrev pub EachIsDrawnOnce : Type 0
EachIsDrawnOnce = (c : Cell) (around : Box4) (fs : List SubjectFinding) → IsEachOnce c around fs (shapes c around fs)

-- a less-than or a greater-than sign, a quotation mark, an apostrophe
abbrev pub is_bracket : ℕ → Bool
is_bracket b = (b == 60) || ((b == 62) || ((b == 34) || (b == 39)))

-- an escaped text of bytes has none of these, so it ends no element and no attribute and begins none
abbrev pub EscapesLeaveNoMarkup : Type 0
EscapesLeaveNoMarkup = (text : List ℕ) → All (λ b. b < 256) text → All (λ b. is_bracket b ≡ false) (escaped text)
