use Rattle.std.proofs.Common.{Some, None, true, false, refl, sym, subst}
use Rattle.cell_bench.specs.Ready.{HaveSameKeys, IsValidOne, Ready}
use Rattle.cell_bench.proofs.ValidRows.{answer_is}
use Rattle.cell_bench.proofs.ready.ReadyRows.valid_at.Goals as goal

pub returns-then-is_valid : goal.returns-then-is_valid
returns-then-is_valid c =
    let row = c.at-row.result.now in
    let same = subst (HaveSameKeys c.self.inside.stale.now) (sym c.as_slice.ensures) c.self.invariant.same in
    subst (λ (r : Ready). IsValidOne r.stale r.rows c.args.place (Some row)) c.self.view_is
    (answer_is c.self.inside.stale.now c.as_slice.result.now c.self.inside.rows.now c.args.place row (Some row) true same c.at-row.ensures
    c.if-is_valid.ensures refl)

pub returns-else-is_valid : goal.returns-else-is_valid
returns-else-is_valid c =
    let row = c.at-row.result.now in
    let same = subst (HaveSameKeys c.self.inside.stale.now) (sym c.as_slice.ensures) c.self.invariant.same in
    subst (λ (r : Ready). IsValidOne r.stale r.rows c.args.place None) c.self.view_is
    (answer_is c.self.inside.stale.now c.as_slice.result.now c.self.inside.rows.now c.args.place row None false same c.at-row.ensures
    c.if-is_valid.ensures refl)
