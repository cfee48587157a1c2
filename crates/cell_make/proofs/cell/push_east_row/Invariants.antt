use Rattle.std.proofs.Common.{◌≡◌, ◌++◌, map}
use Rattle.std.specs.List.{range_with_len}
use Rattle.cell_make.specs.GeneratedCell.{east_edge}
use Rattle.cell_make.proofs.cell.push_east_row.Given as goal

abbrev pub invariant-loop-column : goal.invariant-loop-column
invariant-loop-column l = l.edges ≡ l.initial.edges ++ map (east_edge l.n l.row) (range_with_len 0 l.column)
