use Rattle.std.proofs.Common.{◌≡◌, ◌++◌, map}
use Rattle.std.specs.List.{range_with_len}
use Rattle.cell_make.specs.GeneratedCell.{node_at}
use Rattle.cell_make.proofs.cell.push_node_row.Given as goal

abbrev pub invariant-loop-column : goal.invariant-loop-column
invariant-loop-column l = l.nodes ≡ l.initial.nodes ++ map (node_at l.n l.row) (range_with_len 0 l.column)
