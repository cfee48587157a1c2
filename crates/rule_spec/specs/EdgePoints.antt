-- The points and segments of an edge (S-57 Part 2, 2.2.1.2, chain-node topology; Part 3, 7.7.1.4 and 7.7.1.6).
use Rattle.std.specs.Prelude.{ℕ, ◌==◌, ◌&&◌, Bool, List, [], ◌∷◌, ◌++◌, Option, None, Some, filter, zip, drop, option_map, option_and_then}
use Rattle.std.specs.Ordering.{int_eq}
use Rattle.s57_types.specs.declared.name.RecName.{RecName}
use Rattle.s57_types.specs.declared.record.End.{End}
use Rattle.s57_types.specs.declared.record.Vector.{Vector}
use Rattle.s57_types.specs.declared.cell.Cell.{Cell}
use Rattle.geometry_spec.specs.Points.{Point}
use Rattle.rule_spec.specs.declared.line.EdgeLine.{EdgeLine}
use Rattle.rule_spec.specs.Records.{node_named, edge_named, the_only}

-- from a point to a point
abbrev pub Segment : Type 0
Segment = Point × Point

abbrev pub same_point : Point → Point → Bool
same_point p q = int_eq p.0 q.0 && int_eq p.1 q.1

-- the segments between neighbouring points
abbrev pub segments_of : List Point → List Segment
segments_of points = zip points (drop 1 points)

-- the node that an edge names at its one end with a topology indicator (TOPI): 1 for the beginning node, 2 for the end node
abbrev pub node_at : ℕ → Vector → Option RecName
node_at topi e = option_map (λ (end : End). end.to) (the_only (filter (λ (end : End). end.topi == topi) e.ends))

-- the position of a connected node that has exactly one
abbrev pub node_position : Cell → RecName → Option Point
node_position c n = option_and_then (λ node. the_only node.plane) (node_named c n)

-- the line from one node to another, if each is a connected node with one position
abbrev pub line_between : Cell → Vector → Option RecName → Option RecName → Option EdgeLine
line_between c e None last = None
line_between c e (Some first) None = None
line_between c e (Some first) (Some last) =
    option_and_then (λ p. option_map (λ q. record { begins = first; ends = last; points = p ∷ (e.plane ++ q ∷ []) }) (node_position c last))
    (node_position c first)

-- the line of an edge: exactly one end has TOPI 1, exactly one has TOPI 2, and each of the two names a connected node of the cell with
-- exactly one position
abbrev pub line_of : Cell → Vector → Option EdgeLine
line_of c e = line_between c e (node_at 1 e) (node_at 2 e)

-- the same for the edge of a name; none for every other name
unfoldable pub edge_line_of : Cell → RecName → Option EdgeLine
edge_line_of c n = option_and_then (line_of c) (edge_named c n)

-- the points of an edge
abbrev pub edge_points_of : Cell → RecName → Option (List Point)
edge_points_of c n = option_map (λ line. line.points) (edge_line_of c n)
