-- How often the boundary of an area goes round a point: the crossings of the ray that runs from the point to the east (S-57 Part 3, 7.6.8: a
-- spatial pointer goes along its edge forward or in reverse). The boundary needn't be closed. This project's own rule.
use Rattle.std.specs.Prelude.{ℕ, ◌==◌, ◌&&◌, Bool, List, [], ◌∷◌, map, ℤ, pos, negsuc, ◌+ℤ◌, ◌-ℤ◌, ◌*ℤ◌, int_le, int_lt, if◌then◌else◌}
use Rattle.std.specs.Option.{option_map_or}
use Rattle.s57_types.specs.declared.name.RecName.{RecName}
use Rattle.s57_types.specs.declared.record.Feature.{Feature}
use Rattle.s57_types.specs.declared.record.Spot.{Spot}
use Rattle.s57_types.specs.declared.cell.Cell.{Cell}
use Rattle.geometry_spec.specs.Points.{Point}
use Rattle.rule_spec.specs.EdgePoints.{Segment, edge_points_of, segments_of}
use Rattle.rule_spec.specs.Features.{target}

-- what the items of a list add up to
abbrev pub sum_of : {X : Type 0} → (X → ℤ) → List X → ℤ
sum_of f [] = pos 0
sum_of f (x ∷ xs) = f x +ℤ sum_of f xs

-- a latitude lies between that of `low`, which is one of them, and that of `high`, which isn't
abbrev pub is_passed : ℤ → Point → Point → Bool
is_passed y low high = int_le low.0 y && int_lt y high.0

-- where the line from `low` to `high` has the latitude of a point, it lies strictly east of the point: its longitude there and the point's, both
-- times the difference of the latitudes
abbrev pub is_east_of : Point → Point → Point → Bool
is_east_of at low high =
    let rise = high.0 -ℤ low.0 in
    int_lt (rise *ℤ at.1) ((rise *ℤ low.1) +ℤ ((at.0 -ℤ low.0) *ℤ (high.1 -ℤ low.1)))

-- the way from `low` up to `high` crosses the ray
abbrev pub crosses_ray : Point → Point → Point → Bool
crosses_ray at low high = is_passed at.0 low high && is_east_of at low high

-- 1 for a segment that crosses the ray downwards, -1 for one that crosses it upwards
abbrev pub crossing_of : Point → Segment → ℤ
crossing_of at s = if crosses_ray at s.0 s.1 then negsuc 0 else (if crosses_ray at s.1 s.0 then pos 1 else pos 0)

abbrev pub backwards : Segment → Segment
backwards s = (s.1, s.0)

-- segments as a spatial pointer goes along them: forward (ORNT 1), in reverse (ORNT 2), or not at all
abbrev pub along : ℕ → List Segment → List Segment
along ornt segments = if ornt == 1 then segments else (if ornt == 2 then map backwards segments else [])

-- what the crossings of the segments between points add up to, taken as a spatial pointer of an orientation goes along them
abbrev pub winding_along : Point → ℕ → List Point → ℤ
winding_along at ornt points = sum_of (crossing_of at) (along ornt (segments_of points))

-- what a spatial pointer adds; one that names no edge with points adds nothing
abbrev pub pointer_winding : Cell → Point → Spot → ℤ
pointer_winding c at s = option_map_or (winding_along at s.ornt) (edge_points_of c (target s)) (pos 0)

-- the winding number of an area round a point: what its spatial pointers add up to, an edge twice that it names twice
abbrev pub winding_number : Cell → Point → Feature → ℤ
winding_number c at area = sum_of (pointer_winding c at) area.places

-- the part of an edge: what one spatial pointer that goes along it forward adds
abbrev pub edge_winding : Cell → Point → RecName → ℤ
edge_winding c at e = option_map_or (winding_along at 1) (edge_points_of c e) (pos 0)
