use Rattle.std.proofs.Common.{ap, sym, ◌∙◌, Some}
use Rattle.row_spec.proofs.Place.{value_of_found, value_of_gap}
use Rattle.row_table.proofs.run.SortedRun.get.Goals as goal

pub returns-in-Err : goal.returns-in-Err
returns-in-Err g c = sym (value_of_gap g.K.Ord.cmp _ _ _ c.in-Err.ensures)

pub returns-in-Ok : goal.returns-in-Ok
returns-in-Ok g c =
    let found = rw (← c.self.view_is) at c.in-Ok.ensures in
    rw (← c.self.view_is) (ap (λ row. Some row.1) c.index.ensures ∙ sym (value_of_found g.K.Ord.cmp _ _ _ c.index.result.now found))
