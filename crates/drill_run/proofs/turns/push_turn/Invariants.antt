use Rattle.std.proofs.Common.{◌≡◌, ◌++◌}
use Rattle.std.specs.List.{range_with_len}
use Rattle.drill_run.proofs.turns.push_turn.Given as goal

abbrev pub invariant-loop-session : goal.invariant-loop-session
invariant-loop-session l = l.order.items ≡ l.initial.order.items ++ range_with_len 1 l.session
