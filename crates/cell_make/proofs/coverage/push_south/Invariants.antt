use Rattle.std.proofs.Common.{◌≡◌, ◌-◌, ◌++◌, map}
use Rattle.std.specs.List.{range_with_len}
use Rattle.cell_parts.specs.Parts.{outer}
use Rattle.cell_make.specs.Squares.{east_id}
use Rattle.cell_make.proofs.coverage.push_south.Given as goal

abbrev pub invariant-loop-k : goal.invariant-loop-k
invariant-loop-k l = l.places ≡ l.initial.places ++ map (λ k. outer (east_id l.n 0 (l.n - 1 - k)) 2) (range_with_len 0 l.k)
