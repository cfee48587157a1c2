use Rattle.std.proofs.Common.{◌≤◌, ◌+◌, length}
use Rattle.cell_read.proofs.threads.window_end.Given as goal

abbrev pub invariant-loop : goal.invariant-loop
invariant-loop l = (l.from + l.counter ≤ l.at) × (l.at ≤ length l.bytes)
