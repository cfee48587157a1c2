use Rattle.std.proofs.Common.{sym, ◌∙◌}
use Rattle.row_spec.proofs.Place.{without_key_found, without_key_gap}
use Rattle.row_spec.proofs.Ascending.{IsAscending-without_key}
use Rattle.shared_table.proofs.run.RunChangingPiece.take.Goals as goal

pub invariant_of-self : goal.invariant_of-self
invariant_of-self g c =
    let found = rw (← c.self.view_is) at c.in-Ok.ensures in
    rw (c.remove-row.ensures.items, ← without_key_found g.K.Ord.cmp _ _ _ found) (IsAscending-without_key g.K.Ord.cmp _ _ c.self.invariant)

pub returns-in-Ok-clause-ok : goal.returns-in-Ok-clause-ok
returns-in-Ok-clause-ok g c =
    let found = rw (← c.self.view_is) at c.in-Ok.ensures in
    rw (← c.self.view_is) (c.remove-row.ensures.items ∙ sym (without_key_found g.K.Ord.cmp _ _ _ found))

pub returns-in_default-clause-ok : goal.returns-in_default-clause-ok
returns-in_default-clause-ok g c = sym (without_key_gap g.K.Ord.cmp _ _ _ c.in_default.ensures)
