use Rattle.std.proofs.Common.{◌≡◌}
use Rattle.book_tests.proofs.tests.drawn.take_turns.Given as goal

-- both desks stay in their room
abbrev pub invariant-loop : goal.invariant-loop
invariant-loop g l = (l.first.room ≡ l.initial.first.room) × (l.second.room ≡ l.initial.second.room)
