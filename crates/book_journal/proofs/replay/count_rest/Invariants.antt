use Rattle.std.proofs.Common.{◌≡◌, length}
use Rattle.commit_book.specs.Books.{history_of}
use Rattle.book_journal.specs.Cuts.{HasNoEntry}
use Rattle.book_journal.specs.Replaying.{IsCountedTo}
use Rattle.book_journal.proofs.replay.count_rest.Given as goal

-- the list is gone through up to what is left
abbrev pub invariant-loop-entry : goal.invariant-loop-entry
invariant-loop-entry g l = record {
  to : IsCountedTo l.book.opening l.bytes (length (history_of l.book).commits) l.count l.bench l.left;
  same : l.count ≡ 0 → l.left ≡ l.rest;
  follows : HasNoEntry l.rest → l.count ≡ 0;
}

abbrev pub decreases-loop-entry : goal.decreases-loop-entry
decreases-loop-entry g l = length l.left
