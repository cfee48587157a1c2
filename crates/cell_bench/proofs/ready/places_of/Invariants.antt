use Rattle.std.proofs.Common.{List, take}
use Rattle.cell_spec.specs.declared.key.Key.{Key}
use Rattle.cell_bench.specs.Ready.{ArePlaces, HaveSameKeys}
use Rattle.cell_bench.proofs.ready.places_of.Given as goal

abbrev pub invariant-loop-k : goal.invariant-loop-k
invariant-loop-k l = (keys : List Key) → HaveSameKeys keys l.stale → ArePlaces keys l.rows (take l.k l.rows) l.places
