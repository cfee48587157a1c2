use Rattle.std.proofs.Common.{◌≤◌, ◌-◌, length}
use Rattle.cell_read.specs.Windows.{AreWindows}
use Rattle.cell_read.proofs.threads.windows_from.Given as goal

abbrev pub invariant-loop-from : goal.invariant-loop-from
invariant-loop-from l = record {
  within : l.from ≤ length l.bytes;
  windows : AreWindows l.start l.from l.windows.items;
}

abbrev pub decreases-loop-from : goal.decreases-loop-from
decreases-loop-from l = length l.bytes - l.from
