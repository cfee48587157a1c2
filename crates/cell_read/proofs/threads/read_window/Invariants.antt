use Rattle.std.proofs.Common.{◌-◌, length}
use Rattle.cell_read.specs.Windows.{AreKeptFrom}
use Rattle.cell_read.proofs.threads.read_window.Given as goal

abbrev pub invariant-loop-at : goal.invariant-loop-at
invariant-loop-at l = AreKeptFrom l.nall l.bytes l.window.from l.at l.recs.items

abbrev pub decreases-loop-at : goal.decreases-loop-at
decreases-loop-at l = length l.bytes - l.at
