-- N rows of N squares: where their nodes lie, and the identification numbers RCID of nodes, edges and areas. Rows are counted
-- from 0 northwards and columns from 0 eastwards. This project's own.
use Rattle.std.specs.Prelude.{ℕ, ◌+◌, ◌*◌, List, map}
use Rattle.std.specs.List.{flat_map, range_with_len}

-- the side of a square, in integer coordinate units
abbrev pub side : ℕ
side = 40000

-- the node at the south-western corner of a square, and the nodes at the northern and the eastern border
abbrev pub node_id : ℕ → ℕ → ℕ → ℕ
node_id n row column = 1 + row * (n + 1) + column

-- the edge from that node eastwards to the next one
abbrev pub east_id : ℕ → ℕ → ℕ → ℕ
east_id n row column = 1 + row * n + column

-- the edge from that node northwards to the next one
abbrev pub north_id : ℕ → ℕ → ℕ → ℕ
north_id n row column = 1 + n * (n + 1) + row * (n + 1) + column

-- the depth area on a square, and the area of coverage on all of them
abbrev pub area_id : ℕ → ℕ → ℕ → ℕ
area_id n row column = 1 + row * n + column

abbrev pub coverage_id : ℕ → ℕ
coverage_id n = n * n + 1

-- so many numbers, from 0 on
abbrev pub first : ℕ → List ℕ
first count = range_with_len 0 count

-- an item for each place of so many rows and columns, row by row
abbrev pub row_of : {X : Type 0} → (ℕ → ℕ → X) → ℕ → ℕ → List X
row_of item columns row = map (item row) (first columns)

abbrev pub each_place : {X : Type 0} → (ℕ → ℕ → X) → ℕ → ℕ → List X
each_place item rows columns = flat_map (row_of item columns) (first rows)
