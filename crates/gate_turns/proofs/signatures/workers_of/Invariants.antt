use Rattle.std.proofs.Common.{◌≡◌, All}
use Rattle.gate_turns.proofs.signatures.workers_of.Given as goal

abbrev pub invariant-loop : goal.invariant-loop
invariant-loop l =
    All (λ w. w.seat.gate ≡ l.gate) l.workers.items × (l.root.gate ≡ l.gate) × (l.root.number ≡ 0) × (l.root.given ≡ l.counter)
