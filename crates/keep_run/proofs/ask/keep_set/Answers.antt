use Rattle.std.proofs.Common.{◌∙◌, subst, sym}
use Rattle.edit_sets.specs.FormFault.{GuardedEdits}
use Rattle.rule_spec.specs.Affected.{RowsAreExact}
use Rattle.commit_book.specs.Books.{BookState}
use Rattle.commit_book.specs.Prepared.{AreRight, IsAheadRight}
use Rattle.book_journal.proofs.Taking.{ahead_right, rows_right}
use Rattle.keep_run.proofs.Asking.{while_kept_as}
use Rattle.keep_run.proofs.ask.keep_set.Goals as goal

pub answer_commit-requires-clause-rows : goal.answer_commit-requires-clause-rows
answer_commit-requires-clause-rows g c =
    let p = c.in_ok-prepared.prepared in
    let on = c.in_ok-prepared.ensures in
    subst (λ (book : BookState). AreRight book.opening book.entries p) c.book-book.ensures
    (rows_right c.book-book.result.now p.edits.edits p.rows p.base c.bench.result.now (on.base ∙ c.commits.ensures) c.bench.ensures
    (subst (λ (set : GuardedEdits). RowsAreExact set.edits c.bench.result.now p.rows) (sym on.edits) on.right))

pub answer_commit-requires-clause-ahead : goal.answer_commit-requires-clause-ahead
answer_commit-requires-clause-ahead g c =
    let p = c.in_ok-prepared.prepared in
    let on = c.in_ok-prepared.ensures in
    subst (λ (book : BookState). IsAheadRight book.opening book.entries p) c.book-book.ensures
    (ahead_right c.book-book.result.now p.edits.edits p.ahead p.base c.bench.result.now (on.base ∙ c.commits.ensures) c.bench.ensures on.ahead)

pub returns-in_err-answer_commit-clause-moments : goal.returns-in_err-answer_commit-clause-moments
returns-in_err-answer_commit-clause-moments g c =
    let journal = c.args.journal.now in
    while_kept_as journal.book c.args.set g.D.Disk.moment g.D.Disk.left_since (g.D.Disk.content journal.disk.now) journal.disk.now
    c.answer_commit.new.self.disk.now c.in_ok-prepared.prepared.edits c.in_ok-prepared.ensures.edits (c.answer_commit.ensures.moments c.requires.whole)

pub returns-clause-moments : goal.returns-clause-moments
returns-clause-moments g c =
    let journal = c.args.journal.now in
    while_kept_as journal.book c.args.set g.D.Disk.moment g.D.Disk.left_since (g.D.Disk.content journal.disk.now) journal.disk.now
    c.answer_commit.new.self.disk.now c.in_ok-prepared.prepared.edits c.in_ok-prepared.ensures.edits (c.answer_commit.ensures.moments c.requires.whole)
