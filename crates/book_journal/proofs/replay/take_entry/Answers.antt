use Rattle.std.proofs.Common.{◌∙◌, ℕ, Some, ap, subst, sym}
use Rattle.s57_types.specs.declared.cell.Cell.{Cell}
use Rattle.s57_types.specs.declared.head.Head.{Head}
use Rattle.edit_sets.specs.FormFault.{GuardedEdits}
use Rattle.rule_spec.specs.Affected.{RowsAreExact}
use Rattle.commit_book.specs.Books.{history_of}
use Rattle.book_journal.specs.Texts.{IsSetRead}
use Rattle.book_journal.proofs.Taking.{ahead_right, book_taken, rows_right}
use Rattle.book_journal.proofs.replay.take_entry.Goals as goal

pub answer_commit-requires-clause-rows : goal.answer_commit-requires-clause-rows
answer_commit-requires-clause-rows g c =
    let p = c.in_ok-prepared.prepared in
    let on = c.in_ok-prepared.ensures in
    rows_right c.args.book.now p.edits.edits p.rows p.base c.bench-2.result.now (on.base ∙ c.commits-base.ensures) c.bench-2.ensures
    (subst (λ (set : GuardedEdits). RowsAreExact set.edits c.bench-2.result.now p.rows) (sym on.edits) on.right)

pub answer_commit-requires-clause-ahead : goal.answer_commit-requires-clause-ahead
answer_commit-requires-clause-ahead g c =
    let p = c.in_ok-prepared.prepared in
    let on = c.in_ok-prepared.ensures in
    ahead_right c.args.book.now p.edits.edits p.ahead p.base c.bench-2.result.now (on.base ∙ c.commits-base.ensures) c.bench-2.ensures on.ahead

pub returns-in-Ok : goal.returns-in-Ok
returns-in-Ok g c =
    let book = c.args.book.now in
    let p = c.in_ok-prepared.prepared in
    let on = c.in_ok-prepared.ensures in
    let level = ap (λ (head : Head). head.nall) c.head.ensures ∙ ap (λ (d : Cell). d.head.nall) c.bench.ensures in
    let set_is = rw c.in-Some.is at c.in_ok-set.ensures in
    let leveled = subst (λ (n : ℕ). IsSetRead n c.args.text.now (Some c.in-Some.set)) level set_is in
    let read = subst (λ (set : GuardedEdits). IsSetRead (history_of book).cell.head.nall c.args.text.now (Some set)) (sym on.edits) leveled in
    book_taken book c.answer_commit.new.self c.args.desk p.base c.args.text.now p.edits c.in-Ok.answered.reply read (on.base ∙ c.commits-base.ensures)
    c.in-Ok.ensures.ok
    c.is_accepted.result c.is_accepted.ensures
