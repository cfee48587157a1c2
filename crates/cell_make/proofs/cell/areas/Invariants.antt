use Rattle.std.proofs.Common.{◌≡◌, ◌++◌}
use Rattle.std.specs.List.{flat_map, range_with_len}
use Rattle.cell_make.specs.Squares.{row_of}
use Rattle.cell_make.specs.GeneratedCell.{depth_area}
use Rattle.cell_make.proofs.cell.areas.Given as goal

abbrev pub invariant-loop-row : goal.invariant-loop-row
invariant-loop-row l = l.areas ≡ l.initial.areas ++ flat_map (row_of (depth_area l.n) l.n) (range_with_len 0 l.row)
