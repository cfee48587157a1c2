use Rattle.std.proofs.Common.{◌≡◌}
use Rattle.gate_turns.proofs.signatures.work.Given as goal

abbrev pub invariant-loop : goal.invariant-loop
invariant-loop g l = l.worker.seat.gate ≡ l.initial.worker.seat.gate
