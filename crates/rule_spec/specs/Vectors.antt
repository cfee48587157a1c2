-- Rules on single nodes and edges, beside those on the ends of an edge.
use Rattle.std.specs.Prelude.{ℕ, ◌+◌, ◌==◌, ◌&&◌, ◌||◌, Bool, true, false, not, List, [], ◌∷◌, Option, None, Some, length, map, flat_map, find, nat_lt}
use Rattle.std.specs.Prelude.{is_some, slice_index_or, if◌then◌else◌}
use Rattle.std.specs.List.{enumerate_from, position_from}
use Rattle.std.specs.Option.{option_map_or}
use Rattle.s57_types.specs.declared.name.Kind.TheVariants.{Vi, Vc}
use Rattle.s57_types.specs.declared.record.Vector.{Vector}
use Rattle.s57_types.specs.declared.cell.Cell.{Cell}
use Rattle.cell_spec.specs.Names.{is_of_kind}
use Rattle.geometry_spec.specs.declared.segment.MeetCase.{MeetCase}
use Rattle.geometry_spec.specs.declared.segment.MeetCase.TheVariants.{Apart, At, Along}
use Rattle.geometry_spec.specs.Points.{Point}
use Rattle.geometry_spec.specs.Signs.{meeting_of}
use Rattle.rule_spec.specs.EdgePoints.{Segment, same_point, segments_of, line_of}
use Rattle.rule_spec.specs.Rule.{Found, found_if, found_at}

-- the geometry of an isolated node is one position or soundings; that of a connected node is one position; an edge has no soundings
-- (S-57 Part 3, 7.7.1.6 and 7.7.1.7)
abbrev pub has_its_shape : Vector → Bool
has_its_shape v =
    let positions = length v.plane in
    let soundings = length v.deep in
    if is_of_kind Vi v.name then ((positions == 1) && (soundings == 0)) || ((positions == 0) && nat_lt 0 soundings)
    else if is_of_kind Vc v.name then (positions == 1) && (soundings == 0)
    else soundings == 0

-- BadShape: a vector record has another geometry than its kind of record asks for
abbrev pub bad_shape : Cell → Vector → Found
bad_shape c v = found_if (not (has_its_shape v)) []

-- NodePointer: a node has vector record pointers (VRPT)
abbrev pub node_pointer : Cell → Vector → Found
node_pointer c node = found_if (nat_lt 0 (length node.ends)) []

-- the least number of a segment whose two points are one
abbrev pub stacked_segment : List Point → Option ℕ
stacked_segment points = position_from (λ (s : Segment). same_point s.0 s.1) 1 (segments_of points)

-- Stacked: an edge with points has two equal points in a row (S-57 Appendix B.1); the number of the first
abbrev pub stacked : Cell → Vector → Found
stacked c e = option_map_or (λ line. found_at (stacked_segment line.points)) (line_of c e) []

-- a segment with its number from 1
abbrev pub Numbered : Type 0
Numbered = ℕ × Segment

-- each item of one list with each of another, in the order of their places
abbrev pub each_with_each : {X Y : Type 0} → List X → List Y → List (X × Y)
each_with_each xs ys = flat_map (λ x. map (λ y. (x, y)) ys) xs

abbrev pub meeting_of_segments : Segment → Segment → MeetCase
meeting_of_segments s t = meeting_of s.0 s.1 t.0 t.1

-- what two segments of one line do: neighbours may not overlap, others may not meet, except that the last may end where the first begins
abbrev pub is_bad_meeting : Bool → Bool → MeetCase → Bool
is_bad_meeting neighbours closing Apart = false
is_bad_meeting neighbours closing At = not neighbours && not closing
is_bad_meeting neighbours closing Along = true

-- whether a line ends where it begins
abbrev pub is_closed_line : List Point → Bool
is_closed_line [] = false
is_closed_line (p ∷ rest) = same_point p (slice_index_or (p ∷ rest) (length rest) p)

-- whether the first of two numbered segments stands before the second and meets it as it may not; on a closed line the last of so many segments
-- may end where the first begins
abbrev pub meets_wrongly : Bool → ℕ → Numbered × Numbered → Bool
meets_wrongly closed count pair =
    let i = pair.0.0 in
    let j = pair.1.0 in
    nat_lt i j && is_bad_meeting (j == i + 1) ((closed && (i == 1)) && (j == count)) (meeting_of_segments pair.0.1 pair.1.1)

-- the numbers of two segments
abbrev pub found_pair : Option (Numbered × Numbered) → Found
found_pair None = []
found_pair (Some pair) = (pair.0.0 ∷ pair.1.0 ∷ []) ∷ []

-- the least two segments of a line that meet as they may not, by the number of the first, then of the second
abbrev pub first_wrong_meeting : Bool → List Numbered → Option (Numbered × Numbered)
first_wrong_meeting closed segments = find (meets_wrongly closed (length segments)) (each_with_each segments segments)

-- SelfMeet: an edge with points, none of them stacked, meets itself; the numbers of the least two segments
abbrev pub self_meet_of : List Point → Found
self_meet_of points = if is_some (stacked_segment points) then [] else found_pair
    (first_wrong_meeting (is_closed_line points) (enumerate_from 1 (segments_of points)))

abbrev pub self_meet : Cell → Vector → Found
self_meet c e = option_map_or (λ line. self_meet_of line.points) (line_of c e) []
