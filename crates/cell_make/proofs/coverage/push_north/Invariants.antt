use Rattle.std.proofs.Common.{◌≡◌, ◌++◌, map}
use Rattle.std.specs.List.{range_with_len}
use Rattle.cell_parts.specs.Parts.{outer}
use Rattle.cell_make.specs.Squares.{east_id}
use Rattle.cell_make.proofs.coverage.push_north.Given as goal

abbrev pub invariant-loop-column : goal.invariant-loop-column
invariant-loop-column l = l.places ≡ l.initial.places ++ map (λ column. outer (east_id l.n l.n column) 1) (range_with_len 0 l.column)
