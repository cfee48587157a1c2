use Rattle.std.proofs.Common.{◌≡◌, ◌++◌, map}
use Rattle.std.specs.List.{range_with_len}
use Rattle.cell_parts.specs.Parts.{outer}
use Rattle.cell_make.specs.Squares.{north_id}
use Rattle.cell_make.proofs.coverage.push_west.Given as goal

abbrev pub invariant-loop-row : goal.invariant-loop-row
invariant-loop-row l = l.places ≡ l.initial.places ++ map (λ row. outer (north_id l.n row 0) 1) (range_with_len 0 l.row)
