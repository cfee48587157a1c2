-- The boundary of an area (S-57 Part 3, 7.6.8; Appendix B.1): closed loops, one of them exterior and clockwise, the interior ones counterclockwise.
use Rattle.std.specs.Prelude.{ℕ, ◌==◌, ◌&&◌, Bool, not, List, [], ◌∷◌, Option, length, map, filter, filter_map, flat_map, reverse, is_some, ℤ, pos, int_lt}
use Rattle.std.specs.Prelude.{option_map, if◌then◌else◌}
use Rattle.std.specs.List.{enumerate_from, list_any, list_all}
use Rattle.s57_types.specs.declared.record.Feature.{Feature}
use Rattle.s57_types.specs.declared.record.Spot.{Spot}
use Rattle.s57_types.specs.declared.cell.Cell.{Cell}
use Rattle.geometry_spec.specs.Areas.{signed_double_area}
use Rattle.rule_spec.specs.declared.line.BoundaryRow.{BoundaryRow}
use Rattle.rule_spec.specs.declared.line.EdgeLine.{EdgeLine}
use Rattle.rule_spec.specs.EdgePoints.{edge_line_of}
use Rattle.rule_spec.specs.Features.{prim_refs, dangling_ref, bad_codes, target}
use Rattle.rule_spec.specs.Loops.{Arc, loop_lengths, first_open_place, blocks_of}
use Rattle.rule_spec.specs.Rule.{Found, found_if, found_at}

abbrev pub reversed_line : EdgeLine → EdgeLine
reversed_line line = record { begins = line.ends; ends = line.begins; points = reverse line.points }

-- a line as a spatial pointer goes along it: forward (ORNT 1) or in reverse (ORNT 2)
abbrev pub line_along : ℕ → EdgeLine → EdgeLine
line_along ornt line = if ornt == 2 then reversed_line line else line

abbrev pub boundary_row : Cell → ℕ × Spot → Option BoundaryRow
boundary_row c pointer = option_map (λ line. record { place = pointer.0; usag = pointer.1.usag; line = line_along pointer.1.ornt line })
    (edge_line_of c (target pointer.1))

-- the rows of an area's boundary in the order of its spatial pointers
unfoldable pub boundary_of : Cell → Feature → List BoundaryRow
boundary_of c f = filter_map (boundary_row c) (enumerate_from 1 f.places)

-- nothing was found
abbrev pub is_clean : Found → Bool
is_clean found = length found == 0

-- a spatial pointer names an edge with points
abbrev pub has_points : Cell → Spot → Bool
has_points c s = is_some (edge_line_of c (target s))

-- the boundary rules judge an area whose pointers fit its primitive, name records of the cell and have their codes, and name edges with points
unfoldable pub has_usable_boundary : Cell → Feature → Bool
has_usable_boundary c f =
    (f.prim == 3) && (is_clean (prim_refs c f) && is_clean (dangling_ref c f) && is_clean (bad_codes c f)) && list_all (has_points c) f.places

abbrev pub arc_of : BoundaryRow → Arc
arc_of row = (row.line.begins, row.line.ends)

-- the loops of a boundary
abbrev pub loops_of : List BoundaryRow → List (List BoundaryRow)
loops_of rows = blocks_of (loop_lengths (map arc_of rows)) rows

-- whether all things of a loop have the usage 2, which is interior; whether none has; and whether some have, and not all
abbrev pub all_interior : {X : Type 0} → (X → ℕ) → List X → Bool
all_interior {X} usage loop = list_all (λ (x : X). usage x == 2) loop

abbrev pub none_interior : {X : Type 0} → (X → ℕ) → List X → Bool
none_interior {X} usage loop = not (list_any (λ (x : X). usage x == 2) loop)

abbrev pub partly_interior : {X : Type 0} → (X → ℕ) → List X → Bool
partly_interior usage loop = not (all_interior usage loop) && not (none_interior usage loop)

-- the same of the rows of a loop
abbrev pub usage_of_row : BoundaryRow → ℕ
usage_of_row row = row.usag

abbrev pub is_interior : List BoundaryRow → Bool
is_interior loop = all_interior usage_of_row loop

abbrev pub is_exterior : List BoundaryRow → Bool
is_exterior loop = none_interior usage_of_row loop

abbrev pub is_mixed : List BoundaryRow → Bool
is_mixed loop = partly_interior usage_of_row loop

-- twice the area that a loop goes round, negative where it goes clockwise; a point that stands twice in a row adds nothing
abbrev pub turn_of_loop : List BoundaryRow → ℤ
turn_of_loop loop = signed_double_area (flat_map (λ (row : BoundaryRow). row.line.points) loop)

-- an exterior loop that isn't clockwise, or an interior loop that isn't counterclockwise
abbrev pub turns_wrongly : List BoundaryRow → Bool
turns_wrongly loop = if is_interior loop then not (int_lt (pos 0) (turn_of_loop loop)) else not (int_lt (turn_of_loop loop) (pos 0))

-- the first place of a loop
abbrev pub first_place : List BoundaryRow → List ℕ
first_place [] = []
first_place (row ∷ rest) = row.place ∷ []

-- the first open place of a boundary, and its mixed loops, by their first places
abbrev pub open_ring_of : List BoundaryRow → Found
open_ring_of rows = found_at (first_open_place (map arc_of rows))

abbrev pub mixed_ring_of : List BoundaryRow → Found
mixed_ring_of rows = map first_place (filter is_mixed (loops_of rows))

-- the number of exterior loops where it isn't 1
abbrev pub outer_count_of : List BoundaryRow → Found
outer_count_of rows = let outer = length (filter is_exterior (loops_of rows)) in found_if (not (outer == 1)) (outer ∷ [])

abbrev pub wrong_turn_of : List BoundaryRow → Found
wrong_turn_of rows = map first_place (filter turns_wrongly (loops_of rows))

-- the boundary is closed loops, and none of them is mixed
abbrev pub has_whole_loops : List BoundaryRow → Bool
has_whole_loops rows = is_clean (open_ring_of rows) && is_clean (mixed_ring_of rows)

-- OpenRing: the boundary isn't closed loops one after the other; the first place that is in no loop
abbrev pub open_ring : Cell → Feature → Found
open_ring c f = if has_usable_boundary c f then open_ring_of (boundary_of c f) else []

-- MixedRing: a loop has interior and other usage; its first place
abbrev pub mixed_ring : Cell → Feature → Found
mixed_ring c f = if has_usable_boundary c f && is_clean (open_ring_of (boundary_of c f)) then mixed_ring_of (boundary_of c f) else []

-- OuterCount: the number of exterior loops isn't 1; that number
abbrev pub outer_count : Cell → Feature → Found
outer_count c f = if has_usable_boundary c f && has_whole_loops (boundary_of c f) then outer_count_of (boundary_of c f) else []

-- WrongTurn: an exterior loop isn't clockwise, or an interior loop isn't counterclockwise; its first place
abbrev pub wrong_turn : Cell → Feature → Found
wrong_turn c f = if has_usable_boundary c f && has_whole_loops (boundary_of c f) then wrong_turn_of (boundary_of c f) else []
