-- How two edges, two nodes, or a node and an edge may meet. In chain-node topology (S-57 Part 2, 2.2.1.2) edges meet at shared nodes only.
use Rattle.std.specs.Prelude.{ℕ, ◌==◌, ◌&&◌, ◌||◌, Bool, true, false, not, List, [], ◌∷◌, Option, None, Some, filter, filter_map, find, if◌then◌else◌}
use Rattle.std.specs.List.{enumerate_from, list_any, position_from}
use Rattle.std.specs.Option.{option_map_or}
use Rattle.s57_types.specs.declared.name.RecName.{RecName}
use Rattle.s57_types.specs.declared.record.End.{End}
use Rattle.s57_types.specs.declared.record.Vector.{Vector}
use Rattle.s57_types.specs.declared.cell.Cell.{Cell}
use Rattle.cell_spec.specs.Names.{same_name}
use Rattle.geometry_spec.specs.declared.segment.MeetCase.{MeetCase}
use Rattle.geometry_spec.specs.declared.segment.MeetCase.TheVariants.{Apart, At, Along}
use Rattle.geometry_spec.specs.Points.{Point}
use Rattle.geometry_spec.specs.Signs.{lies_on}
use Rattle.rule_spec.specs.declared.kind.TheConstants.{COINCIDE, CROSS, TOUCH}
use Rattle.rule_spec.specs.declared.line.EdgeLine.{EdgeLine}
use Rattle.rule_spec.specs.EdgePoints.{Segment, same_point, segments_of, edge_line_of, node_position}
use Rattle.rule_spec.specs.Records.{edge_named}
use Rattle.rule_spec.specs.Rule.{Found, found_if, found_at}
use Rattle.rule_spec.specs.Vectors.{Numbered, each_with_each, meeting_of_segments}

-- a point lies on a segment
abbrev pub is_on : Segment → Point → Bool
is_on s w = lies_on w s.0 s.1

-- the nodes that two lines both begin or end at
abbrev pub shared_nodes : EdgeLine → EdgeLine → List RecName
shared_nodes a b = filter (λ n. same_name n b.begins || same_name n b.ends) (a.begins ∷ a.ends ∷ [])

-- whether two segments have their one common point at one of these positions
abbrev pub meet_at_one_of : List Point → Segment → Segment → Bool
meet_at_one_of places s t = list_any (λ w. is_on s w && is_on t w) places

-- a contact is illegal where the segments overlap, or meet at a point that isn't the position of a shared node
abbrev pub is_illegal : List Point → Segment → Segment → MeetCase → Bool
is_illegal places s t Apart = false
is_illegal places s t At = not (meet_at_one_of places s t)
is_illegal places s t Along = true

-- whether two numbered segments have an illegal contact
abbrev pub have_illegal_contact : List Point → Numbered × Numbered → Bool
have_illegal_contact places pair = is_illegal places pair.0.1 pair.1.1 (meeting_of_segments pair.0.1 pair.1.1)

-- the first illegal contact of two lines: the least two segments, by the number on the first line, then on the second
abbrev pub first_illegal_contact : Cell → EdgeLine → EdgeLine → Option (Numbered × Numbered)
first_illegal_contact c a b =
    find (have_illegal_contact (filter_map (node_position c) (shared_nodes a b)))
    (each_with_each (enumerate_from 1 (segments_of a.points)) (enumerate_from 1 (segments_of b.points)))

-- one segment has an end on the other
abbrev pub touch_at_an_end : Segment → Segment → Bool
touch_at_an_end s t = (is_on t s.0 || is_on t s.1) || (is_on s t.0 || is_on s t.1)

-- the kind of an illegal contact: whether the segments overlap, or an end of one lies on the other, or neither
abbrev pub kind_of_contact : Segment → Segment → MeetCase → ℕ
kind_of_contact s t Apart = 0
kind_of_contact s t At = if touch_at_an_end s t then TOUCH else CROSS
kind_of_contact s t Along = COINCIDE

abbrev pub is_contact_of_kind : ℕ → Numbered × Numbered → Bool
is_contact_of_kind kind pair = kind_of_contact pair.0.1 pair.1.1 (meeting_of_segments pair.0.1 pair.1.1) == kind

-- the numbers of the two segments of a contact, if it is of a kind
abbrev pub found_contact : ℕ → Option (Numbered × Numbered) → Found
found_contact kind None = []
found_contact kind (Some pair) = if is_contact_of_kind kind pair then (pair.0.0 ∷ pair.1.0 ∷ []) ∷ [] else []

-- two lines' first illegal contact, if it is of a kind
abbrev pub contact_of_lines : ℕ → Cell → Option EdgeLine → Option EdgeLine → Found
contact_of_lines kind c None b = []
contact_of_lines kind c (Some a) None = []
contact_of_lines kind c (Some a) (Some b) = found_contact kind (first_illegal_contact c a b)

-- Cross, Touch, Coincide: two edges with points cross, touch or overlap away from a shared node; the numbers of the segments of the first
-- illegal contact
abbrev pub cross : Cell → RecName → RecName → Found
cross c a b = contact_of_lines CROSS c (edge_line_of c a) (edge_line_of c b)

abbrev pub touch : Cell → RecName → RecName → Found
touch c a b = contact_of_lines TOUCH c (edge_line_of c a) (edge_line_of c b)

abbrev pub coincide : Cell → RecName → RecName → Found
coincide c a b = contact_of_lines COINCIDE c (edge_line_of c a) (edge_line_of c b)

abbrev pub are_same_place : Option Point → Option Point → Bool
are_same_place None q = false
are_same_place (Some p) None = false
are_same_place (Some p) (Some q) = same_point p q

-- SamePlace: two connected nodes with one position each have the same
abbrev pub same_place : Cell → RecName → RecName → Found
same_place c a b = found_if (are_same_place (node_position c a) (node_position c b)) []

-- an edge's ends name a node
abbrev pub names_node : Vector → RecName → Bool
names_node e n = list_any (λ (end : End). same_name n end.to) e.ends

-- the least segment of a line on which a point lies
abbrev pub segment_under : Option Point → Option EdgeLine → Found
segment_under None line = []
segment_under (Some w) None = []
segment_under (Some w) (Some line) = found_at (position_from (λ s. is_on s w) 1 (segments_of line.points))

-- NodeOnEdge: a connected node with one position lies on an edge with points whose ends don't name it; the first segment that it lies on
abbrev pub node_on_edge : Cell → RecName → RecName → Found
node_on_edge c a b = if option_map_or (λ e. names_node e a) (edge_named c b) true then [] else segment_under (node_position c a) (edge_line_of c b)
