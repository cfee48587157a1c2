-- One square of 40,000 units: four nodes, four edges, a depth area and the coverage.
use Rattle.std.specs.Prelude.{List, [], ◌∷◌, codes}
use Rattle.s57_types.specs.declared.cell.Cell.{Cell}
use Rattle.s57_types.specs.declared.record.Spot.{Spot}
use Rattle.cell_parts.specs.Parts.{head, node, edge, outer, area}

abbrev pub boundary : List Spot
boundary = outer 3 1 ∷ outer 2 1 ∷ outer 4 2 ∷ outer 1 2 ∷ []

abbrev pub square : Cell
square = record {
  head = head 0 0;
  vi = [];
  vc = node 1 0 0 ∷ node 2 0 40000 ∷ node 3 40000 0 ∷ node 4 40000 40000 ∷ [];
  ve = edge 1 1 2 ∷ edge 2 3 4 ∷ edge 3 1 3 ∷ edge 4 2 4 ∷ [];
  fe = area 1 1 42 [] boundary ∷ area 2 2 302 (record { code = 18; value = codes "1" } ∷ []) boundary ∷ [];
}
