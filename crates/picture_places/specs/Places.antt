-- Where a finding is. This project's own.
use Rattle.std.specs.Prelude.{ℕ, ◌+◌, ◌-◌, ◌*◌, ◌/◌, ◌==◌, ◌&&◌, ◌||◌, Bool, List, [], ◌∷◌, Option, None, Some, take, drop, unsigned_abs, slice_get}
use Rattle.std.specs.Prelude.{slice_index, slice_index_or, length, pos, if◌then◌else◌}
use Rattle.std.specs.Option.{option_map_or}
use Rattle.s57_types.specs.declared.cell.Cell.{Cell}
use Rattle.s57_types.specs.declared.name.RecName.{RecName}
use Rattle.s57_types.specs.declared.record.Feature.{Feature}
use Rattle.s57_types.specs.declared.record.Rec.{Rec}
use Rattle.s57_types.specs.declared.record.Rec.TheVariants.{V, F, H}
use Rattle.s57_types.specs.declared.record.Spot.{Spot}
use Rattle.cell_spec.specs.Lookup.{lookup_record}
use Rattle.cell_spec.specs.declared.finding.Finding.{Finding}
use Rattle.cell_spec.specs.declared.key.Subject.{Subject}
use Rattle.cell_spec.specs.declared.key.Subject.TheVariants.{Rec as RecSubject, Side, Pair, Ident}
use Rattle.geometry_spec.specs.Areas.{signed_double_area}
use Rattle.geometry_spec.specs.Points.{Point}
use Rattle.geometry_spec.specs.Signs.{lies_on}
use Rattle.geometry_spec.specs.declared.tile.Box4.{Box4}
use Rattle.rule_spec.specs.EdgePoints.{edge_points_of}
use Rattle.rule_spec.specs.declared.kind.TheConstants.{BAD_CODES, COINCIDE, CROSS, MIXED_RING, OPEN_RING, SELF_MEET, STACKED, TOUCH, WRONG_TURN}
use Rattle.picture_places.specs.declared.page.PagePoint.{PagePoint}
use Rattle.picture_places.specs.Page.{page_point}
use Rattle.picture_places.specs.Strokes.{Stroke, stroke_of, strokes_named, target_strokes}

-- twice the area of a triangle, without its sign
abbrev pub double_area : Point → Point → Point → ℕ
double_area a b c = unsigned_abs (signed_double_area (a ∷ b ∷ c ∷ []))

-- between two numbers, by weights of which one isn't 0
abbrev pub weighed : ℕ → ℕ → ℕ → ℕ → ℕ
weighed a b to_a to_b = (a * to_a + b * to_b) / (to_a + to_b)

-- a point of the first segment, by how far its ends are from the line of the second; rounded
abbrev pub point_between : PagePoint → PagePoint → ℕ → ℕ → PagePoint
point_between p q to_p to_q = record { x = weighed p.x q.x to_p to_q; y = weighed p.y q.y to_p to_q }

-- of two segments on one line, the first end that lies on both
abbrev pub shared_end : Point → Point → Point → Point → Point
shared_end p q r s = if lies_on p r s then p else (if lies_on q r s then q else r)

-- the common point of two segments on the page
abbrev pub common_point : Box4 → Point → Point → Point → Point → PagePoint
common_point around p q r s =
    let from_p = double_area r s p in
    let from_q = double_area r s q in
    if from_p + from_q == 0 then page_point around (shared_end p q r s)
    else point_between (page_point around p) (page_point around q) from_q from_p

abbrev pub point_at : List Point → ℕ → Point
point_at points k = slice_index_or points k (pos 0, pos 0)

abbrev pub common_dots : Box4 → List Point → List Point → List Stroke
common_dots around first second =
    if (length first == 2) && (length second == 2)
    then (common_point around (point_at first 0) (point_at first 1) (point_at second 0) (point_at second 1) ∷ []) ∷ [] else []

-- the segment of an edge with a number from 1, as its two ends; fewer where there is none
abbrev pub segment_of : List Point → ℕ → List Point
segment_of points number = take 2 (drop (number - 1) points)

abbrev pub points_named : Cell → RecName → List Point
points_named c n = option_map_or (λ (points : List Point). points) (edge_points_of c n) []

abbrev pub segment_named : Cell → RecName → ℕ → List Point
segment_named c n number = segment_of (points_named c n) number

-- the spatial pointer of a feature at a place from 1
abbrev pub pointer_at : Feature → ℕ → Option Spot
pointer_at f place = slice_get f.places (place - 1)

-- what it names
abbrev pub strokes_at_place : Cell → Box4 → ℕ → Option Rec → List Stroke
strokes_at_place c around place (Some (F f)) = option_map_or (target_strokes c around) (pointer_at f place) []
strokes_at_place c around place (Some (V v)) = []
strokes_at_place c around place (Some (H h)) = []
strokes_at_place c around place None = []

-- the kinds whose number is the place of a boundary's edge
abbrev pub is_at_place : ℕ → Bool
is_at_place kind = (kind == BAD_CODES) || ((kind == OPEN_RING) || ((kind == MIXED_RING) || (kind == WRONG_TURN)))

-- the kinds that tell of two segments of two edges
abbrev pub is_contact : ℕ → Bool
is_contact kind = (kind == CROSS) || ((kind == TOUCH) || (kind == COINCIDE))

-- a finding about a record: a segment, the common point of two, an edge of a boundary, or the whole record
abbrev pub record_place : Cell → Box4 → RecName → Finding → List Stroke
record_place c around n f =
    if f.kind == STACKED then stroke_of around (segment_named c n (slice_index f.nums 0)) ∷ []
    else if f.kind == SELF_MEET then common_dots around (segment_named c n (slice_index f.nums 0)) (segment_named c n (slice_index f.nums 1))
    else if is_at_place f.kind then strokes_at_place c around (slice_index f.nums 0) (lookup_record c n)
    else strokes_named c around n

-- a finding about two: the common point of two segments, or the node
abbrev pub pair_place : Cell → Box4 → RecName → RecName → Finding → List Stroke
pair_place c around a b f =
    if is_contact f.kind then common_dots around (segment_named c a (slice_index f.nums 0)) (segment_named c b (slice_index f.nums 1))
    else strokes_named c around a

-- an identifier has no place
abbrev pub place_about : Cell → Box4 → Subject → Finding → List Stroke
place_about c around (RecSubject n) f = record_place c around n f
place_about c around (Side n) f = strokes_named c around n
place_about c around (Pair a b) f = pair_place c around a b f
place_about c around (Ident l) f = []
