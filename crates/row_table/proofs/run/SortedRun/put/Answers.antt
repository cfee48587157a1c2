use Rattle.std.proofs.Common.{ap, sym, ◌∙◌, arith, Some}
use Rattle.row_spec.proofs.Place.{value_of_found, value_of_gap, with_row_found, with_row_gap}
use Rattle.row_spec.proofs.Ascending.{IsAscending-with_row}
use Rattle.row_table.proofs.run.SortedRun.put.Goals as goal

-- the key was there
pub invariant_of-self : goal.invariant_of-self
invariant_of-self g c =
    let found = rw (← c.self.view_is) at c.in-Ok.ensures in
    rw (c.replace-old.ensures.after, ← with_row_found g.K.Ord.cmp _ _ c.args.value _ found)
    (IsAscending-with_row g.K.Ord.cmp g.met.K.Ord.total _ _ _ c.self.invariant)

pub returns-in-Ok-clause-rows : goal.returns-in-Ok-clause-rows
returns-in-Ok-clause-rows g c =
    let found = rw (← c.self.view_is) at c.in-Ok.ensures in
    rw (← c.self.view_is, c.replace-old.ensures.after) (sym (with_row_found g.K.Ord.cmp _ _ _ _ found))

pub returns-in-Ok-clause-old : goal.returns-in-Ok-clause-old
returns-in-Ok-clause-old g c =
    let found = rw (← c.self.view_is) at c.in-Ok.ensures in
    rw (← c.self.view_is, c.replace-old.ensures.value) (ap (λ row. Some row.1) c.index_mut.ensures.value
    ∙ sym (value_of_found g.K.Ord.cmp _ _ _ c.index_mut.result.now found))

-- the key is new, so that there is reserved room
pub unreachable-requires : goal.unreachable-requires
unreachable-requires g c =
    let reserved = rw (value_of_gap g.K.Ord.cmp _ _ _ c.in-Err.ensures) at c.requires in
    let inside = rw (← c.self.view_is) at reserved in
    omega (arith, c.in_default.ensures.full)

pub returns-in-Ok-insert-clause-rows : goal.returns-in-Ok-insert-clause-rows
returns-in-Ok-insert-clause-rows g c =
    let gap = rw (← c.self.view_is) at c.in-Err.ensures in
    rw (← c.self.view_is) (c.in-Ok-insert.ensures.items ∙ sym (with_row_gap g.K.Ord.cmp _ _ _ gap _))

pub returns-in-Ok-insert-clause-old : goal.returns-in-Ok-insert-clause-old
returns-in-Ok-insert-clause-old g c = sym (value_of_gap g.K.Ord.cmp _ _ _ c.in-Err.ensures)

pub invariant_of-self-in-Err : goal.invariant_of-self-in-Err
invariant_of-self-in-Err g c =
    let gap = rw (← c.self.view_is) at c.in-Err.ensures in
    rw (c.in-Ok-insert.ensures.items, ← with_row_gap g.K.Ord.cmp _ _ _ gap c.args.value)
    (IsAscending-with_row g.K.Ord.cmp g.met.K.Ord.total _ _ _ c.self.invariant)
