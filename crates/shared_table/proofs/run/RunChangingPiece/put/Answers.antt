use Rattle.std.proofs.Common.{sym, ◌∙◌}
use Rattle.row_spec.proofs.Place.{with_row_found, with_row_gap}
use Rattle.row_spec.proofs.Ascending.{IsAscending-with_row}
use Rattle.shared_table.proofs.run.RunChangingPiece.put.Goals as goal

-- the key was there
pub invariant_of-self : goal.invariant_of-self
invariant_of-self g c =
    let found = rw (← c.self.view_is) at c.in-Ok.ensures in
    rw (← with_row_found g.K.Ord.cmp _ _ c.args.value _ found) (IsAscending-with_row g.K.Ord.cmp g.met.K.Ord.total _ _ _ c.self.invariant)

pub returns-in-Ok-clause-ok : goal.returns-in-Ok-clause-ok
returns-in-Ok-clause-ok g c =
    let found = rw (← c.self.view_is) at c.in-Ok.ensures in
    rw (← c.self.view_is) (sym (with_row_found g.K.Ord.cmp _ _ _ _ found))

-- the key is new
pub invariant_of-self-in-Err : goal.invariant_of-self-in-Err
invariant_of-self-in-Err g c =
    let gap = rw (← c.self.view_is) at c.in-Err.ensures in
    rw (c.in-Ok-insert.ensures.items, ← with_row_gap g.K.Ord.cmp _ _ _ gap c.args.value)
    (IsAscending-with_row g.K.Ord.cmp g.met.K.Ord.total _ _ _ c.self.invariant)

pub returns-in-Ok-insert-clause-ok : goal.returns-in-Ok-insert-clause-ok
returns-in-Ok-insert-clause-ok g c =
    let gap = rw (← c.self.view_is) at c.in-Err.ensures in
    rw (← c.self.view_is) (c.in-Ok-insert.ensures.items ∙ sym (with_row_gap g.K.Ord.cmp _ _ _ gap _))
