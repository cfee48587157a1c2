use Rattle.std.proofs.Common.{◌<◌, length}
use Rattle.shared_table.proofs.Counted.{row_counted, tied}
use Rattle.shared_table.proofs.run.Run.search_near.Goals as goal

pub returns-then-is_eq : goal.returns-then-is_eq
returns-then-is_eq g c =
    let lt : c.in-Some.place < length c.self.inside.rows.items = rw (← c.self.view_is) at c.in-Some.ensures in
    rw (← c.self.view_is) (row_counted g.K.Ord.cmp g.met.K.Ord.total c.args.key.now c.self.inside.rows.items c.in-Some.place c.index.result.now
    c.self.invariant lt c.index.ensures (tied _ (rw (← c.cmp.ensures, ← c.is_eq.ensures) c.if-is_eq.true)))
