use Rattle.std.proofs.Common.{◌≡◌}
use Rattle.drill_run.specs.RoundRobin.{in_turns}
use Rattle.drill_run.proofs.turns.round_robin.Given as goal

abbrev pub invariant-loop-turn : goal.invariant-loop-turn
invariant-loop-turn l = l.order.items ≡ in_turns l.sessions l._turn
