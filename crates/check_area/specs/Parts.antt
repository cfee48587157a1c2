-- The boundary of an area as parts without their points (S-57 Part 3, 7.6.8; Appendix B.1).
use Rattle.std.specs.Prelude.{ℕ, ◌==◌, Bool, not, List, [], ◌∷◌, ◌++◌, Option, None, Some, length, map, filter, ℤ, pos, ◌+ℤ◌, int_lt}
use Rattle.std.specs.Prelude.{if◌then◌else◌}
use Rattle.geometry_spec.specs.Areas.{twice_area_step}
use Rattle.geometry_spec.specs.Points.{Point}
use Rattle.cell_spec.specs.declared.finding.Finding.{Finding}
use Rattle.rule_spec.specs.declared.kind.TheConstants.{MIXED_RING, OPEN_RING, OUTER_COUNT, WRONG_TURN}
use Rattle.rule_spec.specs.declared.line.BoundaryRow.{BoundaryRow}
use Rattle.rule_spec.specs.Boundary.{all_interior, is_clean, none_interior, partly_interior}
use Rattle.rule_spec.specs.Findings.{finding}
use Rattle.rule_spec.specs.Loops.{Arc, loop_lengths, first_open_place, blocks_of}
use Rattle.rule_spec.specs.Rule.{Found, found_if}
use Rattle.check_area.specs.declared.part.BoundaryEdge.{BoundaryEdge}
use Rattle.check_area.specs.Sweeps.{sweep_of}

abbrev pub part_of : BoundaryRow → BoundaryEdge
part_of row = record { place = row.place; usag = row.usag; sweep = sweep_of row.line }

abbrev pub arc_of_part : BoundaryEdge → Arc
arc_of_part p = (p.sweep.begins, p.sweep.ends)

abbrev pub usage_of_part : BoundaryEdge → ℕ
usage_of_part p = p.usag

-- the area on from a point along parts and home, with the steps from each part to the next
abbrev pub area_home : Point → Point → List BoundaryEdge → ℤ
area_home home at [] = twice_area_step at home
area_home home at (p ∷ rest) = (twice_area_step at p.sweep.first +ℤ p.sweep.swept) +ℤ area_home home p.sweep.last rest

-- twice the area that a loop goes round, negative where it goes clockwise
abbrev pub turn_of_parts : List BoundaryEdge → ℤ
turn_of_parts [] = pos 0
turn_of_parts (p ∷ rest) = area_home p.sweep.first p.sweep.first (p ∷ rest)

-- an exterior loop that isn't clockwise, or an interior loop that isn't counterclockwise
abbrev pub turns_against_usage : List BoundaryEdge → Bool
turns_against_usage loop = if all_interior usage_of_part loop then not (int_lt (pos 0) (turn_of_parts loop)) else not (int_lt (turn_of_parts loop) (pos 0))

-- the first place of a loop
abbrev pub place_of_loop : List BoundaryEdge → List ℕ
place_of_loop [] = []
place_of_loop (p ∷ rest) = p.place ∷ []

abbrev pub loops_of_parts : List BoundaryEdge → List (List BoundaryEdge)
loops_of_parts parts = blocks_of (loop_lengths (map arc_of_part parts)) parts

abbrev pub mixed_loops : List (List BoundaryEdge) → Found
mixed_loops loops = map place_of_loop (filter (partly_interior usage_of_part) loops)

-- the number of exterior loops where it isn't 1
abbrev pub exterior_count : List (List BoundaryEdge) → Found
exterior_count loops = let outer = length (filter (none_interior usage_of_part) loops) in found_if (not (outer == 1)) (outer ∷ [])

abbrev pub wrong_loops : List (List BoundaryEdge) → Found
wrong_loops loops = map place_of_loop (filter turns_against_usage loops)

-- MixedRing, or where no loop is mixed OuterCount and WrongTurn
abbrev pub findings_of_loops : List (List BoundaryEdge) → List Finding
findings_of_loops loops = if is_clean (mixed_loops loops) then map (finding OUTER_COUNT) (exterior_count loops)
    ++ map (finding WRONG_TURN) (wrong_loops loops) else map (finding MIXED_RING) (mixed_loops loops)

abbrev pub findings_by : List (List BoundaryEdge) → Option ℕ → List Finding
findings_by loops None = findings_of_loops loops
findings_by loops (Some place) = finding OPEN_RING (place ∷ []) ∷ []

-- OpenRing, or where the boundary is closed loops what is found of these
unfoldable pub findings_of_parts : List BoundaryEdge → List Finding
findings_of_parts parts = findings_by (loops_of_parts parts) (first_open_place (map arc_of_part parts))
