use Rattle.std.proofs.Common.{subst, sym}
use Rattle.s57_types.specs.declared.cell.Cell.{Cell}
use Rattle.rule_spec.specs.Affected.{RowsAreExact}
use Rattle.history_spec.specs.EntriesReport.{cell_told}
use Rattle.book_tests.proofs.tests.books.prepared_early.Goals as goal

pub returns-clause-rows : goal.returns-clause-rows
returns-clause-rows g c =
    let book = c.args.book.now in
    let p = c.in_ok-prepared.prepared in
    let on = c.in_ok-prepared.ensures in
    subst (λ n. RowsAreExact p.edits.edits (cell_told book.opening book.entries n) p.rows) (sym on.base)
    (subst (λ (d : Cell). RowsAreExact p.edits.edits d p.rows) c.requires on.rows)
