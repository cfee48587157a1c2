use Rattle.std.proofs.Common.{◌≡◌}
use Rattle.book_tests.proofs.tests.behind.delete_each.Given as goal

-- the cell of the opening stays
abbrev pub invariant-loop-node : goal.invariant-loop-node
invariant-loop-node g l = l.book.opening ≡ l.initial.book.opening
