use Rattle.std.proofs.Common.{◌≡◌, ◌++◌, map}
use Rattle.std.specs.List.{range_with_len}
use Rattle.cell_make.specs.GeneratedCell.{depth_area}
use Rattle.cell_make.proofs.cell.push_area_row.Given as goal

abbrev pub invariant-loop-column : goal.invariant-loop-column
invariant-loop-column l = l.areas ≡ l.initial.areas ++ map (depth_area l.n l.row) (range_with_len 0 l.column)
