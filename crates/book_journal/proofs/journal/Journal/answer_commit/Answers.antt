use Rattle.std.proofs.Common.{IfSome, subst, sym}
use Rattle.history_spec.specs.declared.entry.Asked.TheVariants.{Commit}
use Rattle.commit_book.specs.Books.{BookState, IsEntered, history_of}
use Rattle.crash_disk.specs.Disk.{LeavesOnly}
use Rattle.book_journal.specs.Keeping.{HasOrHasNot}
use Rattle.book_journal.specs.Parts.{commit_asked}
use Rattle.book_journal.proofs.journal.Journal.answer_commit.Goals as goal

pub keep_answered-requires-clause-entered : goal.keep_answered-requires-clause-entered
keep_answered-requires-clause-entered g c =
    let prepared = c.args.prepared.now in
    subst (λ (book : BookState). IsEntered book c.args.desk (Commit prepared.base prepared.edits) c.answer_commit.new.self c.in_ok-answered.answered.reply)
    (sym c.of-before.ensures) c.in_ok-answered.ensures.ok

pub returns-in_err-keep_answered-clause-moments : goal.returns-in_err-keep_answered-clause-moments
returns-in_err-keep_answered-clause-moments g c whole =
    let disk = c.args.self.now.disk.now in
    subst (λ (book : BookState). IfSome (g.D.Disk.content disk)
    (λ _. LeavesOnly g.D.Disk.moment g.D.Disk.left_since disk c.keep_answered.new.self.disk.now
    (HasOrHasNot book.opening (history_of book).commits (commit_asked c.args.desk c.args.prepared.now)))) c.of-before.ensures
    c.keep_answered.ensures.moments
