use Rattle.std.proofs.Common.{◌≡◌, ◌-◌, ◌++◌, map}
use Rattle.std.specs.List.{range_with_len}
use Rattle.cell_parts.specs.Parts.{outer}
use Rattle.cell_make.specs.Squares.{north_id}
use Rattle.cell_make.proofs.coverage.push_east.Given as goal

abbrev pub invariant-loop-k : goal.invariant-loop-k
invariant-loop-k l = l.places ≡ l.initial.places ++ map (λ k. outer (north_id l.n (l.n - 1 - k) l.n) 2) (range_with_len 0 l.k)
