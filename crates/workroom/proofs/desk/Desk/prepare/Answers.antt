use Rattle.std.proofs.Common.{◌≡◌, subst}
use Rattle.std.specs.Prelude.{IfOk, IfSome}
use Rattle.cell_bench.specs.Benches.{IsPlanned, PreparedCommit}
use Rattle.recheck.specs.Preparing.{prepared_rows}
use Rattle.rule_spec.specs.Affected.{RowsAreExact}
use Rattle.workroom.specs.Desks.{DeskState}
use Rattle.workroom.proofs.desk.Desk.prepare.Goals as goal

pub returns-clause-rows : goal.returns-clause-rows
returns-clause-rows g c =
    let Rows : DeskState → Type 0 = λ d. IfOk c.prepare.result (λ (p : PreparedCommit). p.rows ≡ prepared_rows c.args.edits.edits d.cell) in
    subst Rows c.self.view_is c.prepare.ensures.rows

pub returns-clause-right : goal.returns-clause-right
returns-clause-right g c =
    let Right : DeskState → Type 0 = λ d. IfOk c.prepare.result (λ (p : PreparedCommit). RowsAreExact c.args.edits.edits d.cell p.rows) in
    subst Right c.self.view_is c.prepare.ensures.right

pub returns-clause-ahead : goal.returns-clause-ahead
returns-clause-ahead g c =
    let Ahead : DeskState → Type 0 = λ d. IfOk c.prepare.result (λ (p : PreparedCommit). IfSome p.ahead (IsPlanned d.cell p.edits.edits)) in
    subst Ahead c.self.view_is c.prepare.ensures.ahead
