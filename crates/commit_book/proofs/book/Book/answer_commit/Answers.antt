use Rattle.std.proofs.Common.{◌≡◌, Option, arith, sym, ap, subst, ◌∙◌}
use Rattle.std.specs.Prelude.{IfSome}
use Rattle.s57_types.specs.declared.cell.Cell.{Cell}
use Rattle.history_spec.specs.EntriesReport.{cell_told}
use Rattle.cell_bench.specs.Benches.{IsPlanned}
use Rattle.room_laws.proofs.Bases.{newest_cell}
use Rattle.commit_book.specs.Books.{history_of}
use Rattle.commit_book.proofs.LookUps.{budget_alone}
use Rattle.commit_book.proofs.book.Book.answer_commit.Goals as goal

pub enter_commit-requires-clause-fits : goal.enter_commit-requires-clause-fits
enter_commit-requires-clause-fits g c = record { base = c.requires.base; level = c.requires.level; rows = c.requires.rows }

-- the cell after the base is the newest where no commit came since
pub enter_commit-requires-clause-ahead : goal.enter_commit-requires-clause-ahead
enter_commit-requires-clause-ahead g c = λ newest.
    let book = c.args.self.now in
    let prepared = c.args.prepared.now in
    let cell : cell_told book.opening book.entries prepared.base ≡ (history_of book).cell =
    ap (cell_told book.opening book.entries) newest ∙ sym (newest_cell book.opening book.entries) in
    subst (λ (x : Option Cell × Cell). IfSome x.0 (IsPlanned x.1 prepared.edits.edits)) (λ i. (sym c.ahead.ensures i, cell i)) c.requires.ahead

pub returns-clause-alone : goal.returns-clause-alone
returns-clause-alone g c = λ newest.
    let few = budget_alone c.args.self.now c.args.prepared.now c.requires.rows newest in
    omega (arith, few, c.enter_commit.ensures.steps)
