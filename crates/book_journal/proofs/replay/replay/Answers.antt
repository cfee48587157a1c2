use Rattle.std.proofs.Common.{arith, length}
use Rattle.commit_book.specs.Books.{history_of}
use Rattle.book_journal.proofs.Replayed.{counted_within}
use Rattle.book_journal.proofs.replay.replay.Goals as goal

pub overflow_add-result : goal.overflow_add-result
overflow_add-result g c =
    let book = c.fill_book.new.book in
    omega (
      arith,
      c.from.ensures,
      c.commits.ensures,
      counted_within book.opening c.args.bytes.now (length (history_of book).commits) c.in_ok-rest.rest.now c.in_ok-count.count c.in_ok-count.ensures,
    )
