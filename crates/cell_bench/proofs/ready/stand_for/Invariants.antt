use Rattle.std.proofs.Common.{◌≡◌, map, take}
use Rattle.cell_spec.specs.declared.finding.Row.{Row as SpecRow}
use Rattle.cell_bench.proofs.ready.stand_for.Given as goal

abbrev pub invariant-loop-k : goal.invariant-loop-k
invariant-loop-k l = map (λ (row : SpecRow). row.subject) (take l.k l.rows) ≡ take l.k l.subjects
