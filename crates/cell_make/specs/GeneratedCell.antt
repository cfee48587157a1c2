-- The generated cell: N rows of N squares, each a depth area, under one area of data coverage. This project's own.
use Rattle.std.specs.Prelude.{ℕ, ◌+◌, ◌*◌, List, [], ◌∷◌, ◌++◌, map, reverse, codes}
use Rattle.s57_types.specs.declared.cell.Cell.{Cell}
use Rattle.s57_types.specs.declared.record.Attr.{Attr}
use Rattle.s57_types.specs.declared.record.Rec.{Rec}
use Rattle.s57_types.specs.declared.record.Spot.{Spot}
use Rattle.cell_parts.specs.Parts.{area, edge, head, node, outer}
use Rattle.cell_make.specs.Squares.{side, node_id, east_id, north_id, area_id, coverage_id, first, each_place}

abbrev pub node_at : ℕ → ℕ → ℕ → Rec
node_at n row column = node (node_id n row column) (side * row) (side * column)

abbrev pub east_edge : ℕ → ℕ → ℕ → Rec
east_edge n row column = edge (east_id n row column) (node_id n row column) (node_id n row (column + 1))

abbrev pub north_edge : ℕ → ℕ → ℕ → Rec
north_edge n row column = edge (north_id n row column) (node_id n row column) (node_id n (row + 1) column)

-- the boundary of a square, clockwise: its western, northern, eastern and southern edge, the last two against their direction
abbrev pub square_boundary : ℕ → ℕ → ℕ → List Spot
square_boundary n row column =
    outer (north_id n row column) 1 ∷ outer (east_id n (row + 1) column) 1 ∷ outer (north_id n row (column + 1)) 2 ∷ outer (east_id n row column) 2 ∷ []

-- a depth area (DEPARE), of Group 1
abbrev pub depth_area : ℕ → ℕ → ℕ → Rec
depth_area n row column = area (area_id n row column) 1 42 [] (square_boundary n row column)

-- the boundary of all squares, clockwise: west, north, east and south, the last two against the edges' direction
abbrev pub western_border : ℕ → List Spot
western_border n = map (λ row. outer (north_id n row 0) 1) (first n)

abbrev pub northern_border : ℕ → List Spot
northern_border n = map (λ column. outer (east_id n n column) 1) (first n)

abbrev pub eastern_border : ℕ → List Spot
eastern_border n = map (λ row. outer (north_id n row n) 2) (reverse (first n))

abbrev pub southern_border : ℕ → List Spot
southern_border n = map (λ column. outer (east_id n 0 column) 2) (reverse (first n))

abbrev pub whole_boundary : ℕ → List Spot
whole_boundary n = western_border n ++ northern_border n ++ eastern_border n ++ southern_border n

-- the attribute CATCOV: coverage available
abbrev pub available : Attr
available = record { code = 18; value = codes "1" }

-- the area of data coverage (M_COVR), of Group 2
abbrev pub coverage_area : ℕ → Rec
coverage_area n = area (coverage_id n) 2 302 (available ∷ []) (whole_boundary n)

-- its records, each list in the order of identification numbers
abbrev pub generated_nodes : ℕ → List Rec
generated_nodes n = each_place (node_at n) (n + 1) (n + 1)

abbrev pub generated_edges : ℕ → List Rec
generated_edges n = each_place (east_edge n) (n + 1) n ++ each_place (north_edge n) n (n + 1)

abbrev pub generated_areas : ℕ → List Rec
generated_areas n = each_place (depth_area n) n n ++ coverage_area n ∷ []

unfoldable pub generated_cell : ℕ → Cell
generated_cell n = record { head = head 0 0; vi = []; vc = generated_nodes n; ve = generated_edges n; fe = generated_areas n }
