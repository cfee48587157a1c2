use Rattle.std.proofs.Common.{◌≡◌, ◌++◌, drop}
use Rattle.cell_bench.specs.Singles.{singles_among}
use Rattle.cell_bench.proofs.singles.push_all.Given as goal

abbrev pub invariant-loop-rec : goal.invariant-loop-rec
invariant-loop-rec l = l.subjects.items ++ singles_among (drop l.rec-index l.recs) ≡ l.fn.subjects.items ++ singles_among l.recs
