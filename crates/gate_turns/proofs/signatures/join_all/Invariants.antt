use Rattle.std.proofs.Common.{◌≡◌, All, length}
use Rattle.gate_turns.proofs.signatures.join_all.Given as goal

abbrev pub decreases-loop-worker : goal.decreases-loop-worker
decreases-loop-worker l = length l.workers.items

abbrev pub invariant-loop-worker : goal.invariant-loop-worker
invariant-loop-worker l =
    All (λ w. w.seat.gate ≡ l.gate) l.workers.items
    × (l.root.gate ≡ l.gate)
    × (l.root.number ≡ l.initial.root.number)
    × (l.root.given ≡ l.initial.root.given)
