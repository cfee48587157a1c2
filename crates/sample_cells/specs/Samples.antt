-- Small cells.
use Rattle.std.specs.Prelude.{ℕ, pos, negsuc, List, [], ◌∷◌, map}
use Rattle.s57_types.specs.declared.cell.Cell.{Cell}
use Rattle.s57_types.specs.declared.head.Level.{Level}
use Rattle.s57_types.specs.declared.record.Rec.{Rec}
use Rattle.s57_types.specs.declared.record.Spot.{Spot}
use Rattle.cell_spec.specs.declared.edit.Edit.{Edit}
use Rattle.cell_spec.specs.declared.edit.Edit.TheVariants.{Add, Head}
use Rattle.cell_spec.specs.Edits.{apply_edits}
use Rattle.sample_cells.specs.Parts.{head, head_values, vi, vc, ve, at, node, edge, end_of, vector, spot, objnam, outer, feature, depth_area, coverage_area}
use Rattle.sample_cells.specs.Parts.{partnered, named_alike, square}

abbrev pub cell : List Rec → List Rec → List Rec → Cell
cell nodes edges features = record { head = head; vi = []; vc = nodes; ve = edges; fe = features }

abbrev pub empty_cell : Cell
empty_cell = cell [] [] []

-- one square of 40,000 units: four nodes, four edges, a depth area and the coverage
abbrev pub grid : Cell
grid = cell
    (node 1 (at 0 0) ∷ node 2 (at 0 40000) ∷ node 3 (at 40000 0) ∷ node 4 (at 40000 40000) ∷ [])
    (edge 1 1 2 [] ∷ edge 2 3 4 [] ∷ edge 3 1 3 [] ∷ edge 4 2 4 [] ∷ [])
    (depth_area 1 square ∷ coverage_area 2 square ∷ [])

-- two nodes and an edge, and an edge with one dangling end
abbrev pub dangling : Cell
dangling = cell (node 1 (at 0 0) ∷ node 2 (at 0 100) ∷ []) (edge 1 1 2 [] ∷ vector (ve 2) (end_of 1 (vc 9) ∷ []) [] ∷ []) []

-- a closed edge, alone and used by a line feature
abbrev pub closed_edge : Cell
closed_edge = cell (node 1 (at 0 0) ∷ []) (edge 1 1 1 (at 0 100 ∷ at 100 0 ∷ []) ∷ []) []

abbrev pub used_by_line : Edit
used_by_line = Add (feature 1 2 2 30 [] (spot (ve 1) 1 255 255 ∷ []))

-- a line feature with three names: the first ends ASCII, and the other two have a byte beyond it
abbrev pub accented_line : Cell
accented_line = apply_edits
    (Add (feature 1 2 2 30 (objnam (65 ∷ 127 ∷ []) ∷ objnam (66 ∷ 128 ∷ []) ∷ objnam (255 ∷ 67 ∷ []) ∷ []) (spot (ve 1) 1 255 255 ∷ [])) ∷ []) closed_edge

-- another level of texts
abbrev pub at_level : Level → Edit
at_level level = Head (head_values level)

-- an edge from a node back to it, with no other point
abbrev pub stacked_edge : Cell
stacked_edge = cell (node 1 (at 0 0) ∷ []) (edge 1 1 1 [] ∷ []) []

-- two edges between opposite corners of the whole range of coordinates
abbrev pub diagonals : Cell
diagonals = cell
    (node 1 (negsuc 2147483647, negsuc 2147483647) ∷ node 2 (at 2147483647 2147483647) ∷ node 3 (negsuc 2147483647, pos 2147483647) ∷ node 4
    (pos 2147483647, negsuc 2147483647) ∷ [])
    (edge 1 1 2 [] ∷ edge 2 3 4 [] ∷ []) []

-- a node on an edge
abbrev pub node_on_line : Cell
node_on_line = cell (node 1 (at 0 0) ∷ node 2 (at 0 10) ∷ node 3 (at 0 5) ∷ []) (edge 1 1 2 [] ∷ []) []

-- two nodes at one place, from each of which an edge begins
abbrev pub touching_edges : Cell
touching_edges = cell (node 1 (at 0 0) ∷ node 2 (at 0 0) ∷ node 3 (at 0 10) ∷ node 4 (at 10 0) ∷ []) (edge 1 1 3 [] ∷ edge 2 2 4 [] ∷ []) []

-- three edges from one node to another: the second has a point on the first, and the third begins along it
abbrev pub overlapping_edges : Cell
overlapping_edges = cell (node 1 (at 0 0) ∷ node 2 (at 0 10) ∷ [])
    (edge 1 1 2 [] ∷ edge 2 1 2 (at 5 5 ∷ at 0 6 ∷ []) ∷ edge 3 1 2 (at 0 4 ∷ (negsuc 4, pos 5) ∷ []) ∷ []) []

-- an edge whose ends name itself
abbrev pub self_named : Cell
self_named = cell [] (vector (ve 1) (end_of 1 (ve 1) ∷ end_of 2 (ve 1) ∷ []) [] ∷ []) []

-- an edge that crosses itself, and one that turns back on itself
abbrev pub knotted_edges : Cell
knotted_edges = cell (node 1 (at 0 0) ∷ node 2 (at 10 10) ∷ node 3 (at 50 0) ∷ node 4 (at 50 5) ∷ [])
    (edge 1 1 2 (at 0 10 ∷ at 10 5 ∷ at 0 5 ∷ []) ∷ edge 2 3 4 (at 50 9 ∷ []) ∷ []) []

-- nodes of the wrong shape: an isolated node with nothing, a connected node with two positions, and a node with a pointer
abbrev pub misshapen : Cell
misshapen = record {
  head = head;
  vi = vector (vi 1) [] [] ∷ [];
  vc =
      vector (vc 1) [] (at 0 0 ∷ at 0 1 ∷ []) ∷ vector (vc 2) (end_of 1 (vc 1) ∷ []) (at 5 5 ∷ []) ∷ [];
  ve = [];
  fe = [];
}

-- so many nodes at one place
abbrev pub nodes_at_one_place : List ℕ → Cell
nodes_at_one_place ids = cell (map (λ n. node n (at 7 7)) ids) [] []

-- the square with a second depth area on it
abbrev pub two_squares : Cell
two_squares = apply_edits (Add (depth_area 3 square) ∷ []) grid

-- a clockwise closed edge and a counterclockwise one inside it
abbrev pub ring : List Rec → Cell
ring features = cell (node 1 (at 0 0) ∷ node 2 (at 40 40) ∷ [])
    (edge 1 1 1 (at 100 0 ∷ at 100 100 ∷ at 0 100 ∷ []) ∷ edge 2 2 2 (at 40 60 ∷ at 60 60 ∷ at 60 40 ∷ []) ∷ []) features

-- an area on that ring
abbrev pub ring_area : List Spot → Cell
ring_area places = ring (feature 1 3 2 30 [] places ∷ [])

-- edges from a node and back to it, north and south of it
abbrev pub eight : List Spot → Cell
eight places = cell (node 1 (at 0 0) ∷ node 2 (at 10 10) ∷ node 3 (at 20 20) ∷ [])
    (edge 1 1 2 (at 10 0 ∷ []) ∷ edge 2 2 3 (at 20 10 ∷ []) ∷ edge 3 3 2 (at 10 20 ∷ []) ∷ edge 4 2 1 (at 0 10 ∷ []) ∷ []) (feature 1 3 2 30 [] places ∷ [])

-- features beside those of the square with a fault each
abbrev pub faulty_features : Cell
faulty_features = apply_edits
    (Add (feature 5 2 2 30 [] []) ∷ Add (feature 6 1 2 30 [] (spot (ve 1) 255 255 255 ∷ [])) ∷ Add (feature 7 255 1 30 [] []) ∷
    Add (feature 8 3 2 30 [] (outer 9 1 ∷ spot (ve 1) 255 1 255 ∷ [])) ∷ Add (partnered 10 (99 ∷ 1 ∷ [])) ∷ Add (named_alike 11 1) ∷ []) grid

-- an area on the square whose boundary is said to be cut off by the data limit
abbrev pub truncated_square : List Spot
truncated_square = spot (ve 3) 1 3 255 ∷ spot (ve 2) 1 3 255 ∷ spot (ve 4) 2 3 255 ∷ spot (ve 1) 2 3 255 ∷ []

-- the square, edited
abbrev pub grid_after : List Edit → Cell
grid_after edits = apply_edits edits grid
