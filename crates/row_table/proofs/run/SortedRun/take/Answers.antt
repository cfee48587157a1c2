use Rattle.std.proofs.Common.{arith, ap, sym, ◌∙◌, Some}
use Rattle.row_spec.proofs.Place.{value_of_found, value_of_gap, without_key_found, without_key_gap}
use Rattle.row_spec.proofs.Ascending.{IsAscending-without_key}
use Rattle.row_table.proofs.run.SortedRun.take.Goals as goal

pub invariant_of-self : goal.invariant_of-self
invariant_of-self g c =
    let found = rw (← c.self.view_is) at c.in-Ok.ensures in
    rw (c.remove-value.ensures.items, ← without_key_found g.K.Ord.cmp _ _ _ found) (IsAscending-without_key g.K.Ord.cmp _ _ c.self.invariant)

pub returns-in-Err-clause-rows : goal.returns-in-Err-clause-rows
returns-in-Err-clause-rows g c = sym (without_key_gap g.K.Ord.cmp _ _ _ c.in-Err.ensures)

pub returns-in-Ok-clause-rows : goal.returns-in-Ok-clause-rows
returns-in-Ok-clause-rows g c =
    let found = rw (← c.self.view_is) at c.in-Ok.ensures in
    rw (← c.self.view_is) (c.remove-value.ensures.items ∙ sym (without_key_found g.K.Ord.cmp _ _ _ found))

pub returns-in-Err-clause-old : goal.returns-in-Err-clause-old
returns-in-Err-clause-old g c = sym (value_of_gap g.K.Ord.cmp _ _ _ c.in-Err.ensures)

pub returns-in-Ok-clause-old : goal.returns-in-Ok-clause-old
returns-in-Ok-clause-old g c =
    let found = rw (← c.self.view_is) at c.in-Ok.ensures in
    rw (← c.self.view_is) (ap (λ row. Some row.1) c.remove-value.ensures.value ∙ sym (value_of_found g.K.Ord.cmp _ _ _ c.remove-value.result found))

pub returns-in-Ok-clause-len : goal.returns-in-Ok-clause-len
returns-in-Ok-clause-len g c = rw (← c.self.view_is) (omega (arith, c.remove-value.ensures.len, c.remove-value.new.self.ok.0, c.self.inside.rows.ok.0))
