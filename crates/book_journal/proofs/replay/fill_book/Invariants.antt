use Rattle.std.proofs.Common.{length}
use Rattle.book_journal.specs.Replaying.{IsBookTo}
use Rattle.book_journal.proofs.replay.fill_book.Given as goal

-- the book has the commits up to the rest
abbrev pub invariant-loop-alloc : goal.invariant-loop-alloc
invariant-loop-alloc g l = IsBookTo l.fn.book.opening l.bytes l.book l.rest

abbrev pub decreases-loop-alloc : goal.decreases-loop-alloc
decreases-loop-alloc g l = length l.rest
