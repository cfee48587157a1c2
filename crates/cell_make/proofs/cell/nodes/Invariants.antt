use Rattle.std.proofs.Common.{◌≡◌, ◌+◌, ◌++◌}
use Rattle.std.specs.List.{flat_map, range_with_len}
use Rattle.cell_make.specs.Squares.{row_of}
use Rattle.cell_make.specs.GeneratedCell.{node_at}
use Rattle.cell_make.proofs.cell.nodes.Given as goal

abbrev pub invariant-loop-row : goal.invariant-loop-row
invariant-loop-row l = l.nodes ≡ l.initial.nodes ++ flat_map (row_of (node_at l.n) (l.n + 1)) (range_with_len 0 l.row)
