use Rattle.std.proofs.Common.{◌≡◌, ◌++◌}
use Rattle.std.specs.List.{flat_map, range_with_len}
use Rattle.cell_make.specs.Squares.{row_of}
use Rattle.cell_make.specs.GeneratedCell.{east_edge}
use Rattle.cell_make.proofs.cell.push_east_edges.Given as goal

abbrev pub invariant-loop-row : goal.invariant-loop-row
invariant-loop-row l = l.edges ≡ l.initial.edges ++ flat_map (row_of (east_edge l.n) l.n) (range_with_len 0 l.row)
