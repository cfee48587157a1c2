-- Where a point of a cell stands on the page: north up, east to the right, the cell filling the picture. This project's own.
use Rattle.std.specs.Prelude.{ℕ, ◌+◌, ◌*◌, ◌/◌, ℤ, pos, ◌-ℤ◌, unsigned_abs, min, max, List, fold, flat_map, map, Option, None, Some, ◌++◌, []}
use Rattle.std.specs.Option.{option_map_or}
use Rattle.s57_types.specs.declared.cell.Cell.{Cell}
use Rattle.s57_types.specs.declared.record.Vector.{Vector}
use Rattle.s57_types.specs.declared.record.Rec.{Rec}
use Rattle.s57_types.specs.declared.record.Rec.TheVariants.{V, F, H}
use Rattle.cell_spec.specs.Lookup.{all_records}
use Rattle.geometry_spec.specs.Points.{Point}
use Rattle.geometry_spec.specs.Boxes.{box_of}
use Rattle.geometry_spec.specs.declared.tile.Box4.{Box4}
use Rattle.line_boxes.specs.LineBoxes.{united}
use Rattle.picture_places.specs.declared.page.PagePoint.{PagePoint}
use Rattle.picture_places.specs.declared.page.TheConstants.{PAGE_LEFT, PAGE_TOP, PAGE_SIDE}

-- the plane of a sounding
abbrev pub without_depth : ℤ × ℤ × ℤ → Point
without_depth d = (d.0, d.1)

-- the positions of a vector record: its 2-D coordinates, then its soundings
abbrev pub positions_of : Vector → List Point
positions_of v = v.plane ++ map without_depth v.deep

abbrev pub record_positions : Rec → List Point
record_positions (V v) = positions_of v
record_positions (F f) = []
record_positions (H h) = []

-- the least box around points
abbrev pub around_with : Option Box4 → Point → Option Box4
around_with None p = Some (box_of p p)
around_with (Some around) p = Some (united around (box_of p p))

abbrev pub origin_box : Box4
origin_box = record { south = pos 0; west = pos 0; north = pos 0; east = pos 0 }

-- around all positions of a cell; a cell without positions is drawn as if around the origin
abbrev pub box_around : List Point → Box4
box_around points = option_map_or (λ (around : Box4). around) (fold around_with None points) origin_box

abbrev pub extent_of : Cell → Box4
extent_of c = box_around (flat_map record_positions (all_records c))

-- its height and its width, each at least one coordinate unit
abbrev pub height_of : Box4 → ℕ
height_of around = max (unsigned_abs (around.north -ℤ around.south)) 1

abbrev pub width_of : Box4 → ℕ
width_of around = max (unsigned_abs (around.east -ℤ around.west)) 1

-- a distance of coordinate units on the page, where the span fills the side
abbrev pub on_page : ℕ → ℕ → ℕ
on_page span distance = min distance span * PAGE_SIDE / span

-- east is to the right of the west side, south below the north side
abbrev pub page_point : Box4 → Point → PagePoint
page_point around p = record {
  x = PAGE_LEFT + on_page (width_of around) (unsigned_abs (p.1 -ℤ around.west));
  y = PAGE_TOP + on_page (height_of around) (unsigned_abs (around.north -ℤ p.0));
}
