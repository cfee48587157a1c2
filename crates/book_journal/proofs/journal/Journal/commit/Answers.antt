use Rattle.std.proofs.Common.{subst, sym}
use Rattle.history_spec.specs.declared.entry.Asked.TheVariants.{Commit}
use Rattle.commit_book.specs.Books.{BookState, IsEntered}
use Rattle.book_journal.proofs.journal.Journal.commit.Goals as goal

pub keep_answered-requires-clause-entered : goal.keep_answered-requires-clause-entered
keep_answered-requires-clause-entered g c =
    let prepared = c.args.prepared.now in
    subst (λ (book : BookState). IsEntered book c.args.desk (Commit prepared.base prepared.edits) c.commit.new.self c.in_ok-told.told.reply)
    (sym c.of-before.ensures) c.in_ok-told.ensures.ok
