use Rattle.std.proofs.Common.{IfSome, subst, sym}
use Rattle.std.proofs.lemmas.Result.{err_from_is_err_and}
use Rattle.s57_types.specs.declared.cell.Cell.{Cell}
use Rattle.commit_book.specs.Books.{history_of}
use Rattle.book_journal.specs.Keeping.{IsStanding}
use Rattle.book_journal.proofs.Opening.{cause_of}
use Rattle.book_journal.proofs.journal.Journal.start.Goals as goal

pub over-requires-clause-standing : goal.over-requires-clause-standing
over-requires-clause-standing g c =
    let book = c.in_ok-book.book in
    let opened = c.in_ok-book.ensures.opened in
    subst (λ (cell : Cell). IfSome (g.D.Disk.content c.open_book.new.disk)
    (IsStanding cell (history_of book).commits c.in_ok-book.end (g.D.Disk.images c.open_book.new.disk))) (sym c.in_ok-book.ensures.book.opening)
    opened.standing

pub returns-in_err-book-clause-err : goal.returns-in_err-book-clause-err
returns-in_err-book-clause-err g c =
    let refused = err_from_is_err_and c.from_residual.result c.from_residual.ensures.1 in
    rw (refused.1, refused.2) (cause_of c.args.cell (g.D.Disk.content c.args.disk.now) (g.D.Disk.faults c.args.disk.now)
    (g.D.Disk.faults c.open_book.new.disk) c.in_err-book.field-0.0 c.in_err-book.ensures.err)
