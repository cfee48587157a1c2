use Rattle.std.proofs.Common.{rules, arith, ap, length}
use Rattle.std.proofs.lemmas.Fn.{always_returns_same}
use Rattle.row_spec.specs.Rows.{begins_by}
use Rattle.row_spec.proofs.Found.{block_found, begins_parted}
use Rattle.row_table.proofs.blocks.Blocks.block_for.Goals as goal

pub returns : goal.returns
returns g c =
    let ascending = rw (← c.self.view_is) at c.requires.ascending in
    let some = rw (← c.self.view_is) at c.requires.some in
    let parted = begins_parted g.K.Ord.cmp g.met.K.Ord.total c.args.key.now c.self.inside.runs.items c.self.invariant.0 ascending in
    let point = c.partition_point.ensures.partitioned (λ run. begins_by g.K.Ord.cmp run.rows c.args.key.now)
    (always_returns_same _ _ _ (λ a r after called. search rules)) (rw c.deref.ensures.value parted) in
    rw (← c.self.view_is) (block_found g.K.Ord.cmp g.met.K.Ord.total c.args.key.now c.self.inside.runs.items c.partition_point.result
    c.saturating_sub.result c.self.invariant.0 ascending some
    (omega (arith, c.partition_point.ensures.bound, ap length c.deref.ensures.value)) c.saturating_sub.ensures
    (rw c.deref.ensures.value at point))
