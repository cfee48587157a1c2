use Rattle.std.proofs.Common.{Bool, arith, subst}
use Rattle.book_journal.specs.Replaying.{IsBookTaken}
use Rattle.book_journal.proofs.Replaying.{book_damaged, book_more}
use Rattle.book_journal.proofs.replay.fill_book.Goals as goal

pub returns-then-not-branch : goal.returns-then-not-branch
returns-then-not-branch g c =
    let entry = c.in-Some.entry in
    book_damaged c.args.book.now.opening c.args.bytes.now c.loop-alloc.book c.loop-alloc.rest.now entry.desk entry.text.now entry.rest.now c.requires.more
    c.loop-alloc.invariant c.in-Some.ensures
    (subst (λ (b : Bool). IsBookTaken c.loop-alloc.book entry.desk entry.text.now c.take_entry.new.book b) c.if-not-branch.true c.in_ok-take_entry.ensures)

pub loop-alloc-preserved : goal.loop-alloc-preserved
loop-alloc-preserved g c =
    let entry = c.in-Some.entry in
    book_more c.args.book.now.opening c.args.bytes.now c.loop-alloc.book c.take_entry.new.book c.loop-alloc.rest.now entry.desk entry.text.now entry.rest.now
    c.loop-alloc.invariant c.in-Some.ensures
    (subst (λ (b : Bool). IsBookTaken c.loop-alloc.book entry.desk entry.text.now c.take_entry.new.book b) c.if-not-branch.false c.in_ok-take_entry.ensures)
    (omega (arith, c.loop-alloc-test.true, c.commits.ensures))
