use Rattle.std.proofs.Common.{rules, ap, arith, length, leb}
use Rattle.std.proofs.lemmas.List.Sorted.{IsPartitionPoint-from_clause}
use Rattle.row_table.proofs.Starts.{starts_parted, located}
use Rattle.row_table.proofs.blocks.Blocks.block_at.Goals as goal

-- the first block begins at place 0, so that there is a block before the point
pub overflow_sub-result : goal.overflow_sub-result
overflow_sub-result g c =
    let within = rw (← c.self.view_is) at c.requires in
    let point = IsPartitionPoint-from_clause (λ start. leb start c.args.place) c.self.inside.starts.items c.partition_point.result
    (rw c.deref.ensures.value at c.partition_point.ensures.partitioned) (starts_parted _ _ c.self.invariant.2 c.args.place)
    (λ a r after called. search rules) in
    let at = located _ _ c.self.invariant.2 c.args.place c.partition_point.result within
    (omega (arith, c.partition_point.ensures.bound, ap length c.deref.ensures.value)) point in
    at.0

pub returns : goal.returns
returns g c =
    rw (← c.self.view_is) (located _ _ c.self.invariant.2 c.args.place c.partition_point.result (rw (← c.self.view_is) at c.requires)
    (omega (arith, c.partition_point.ensures.bound, ap length c.deref.ensures.value))
    (IsPartitionPoint-from_clause (λ start. leb start c.args.place) c.self.inside.starts.items c.partition_point.result
    (rw c.deref.ensures.value at c.partition_point.ensures.partitioned) (starts_parted _ _ c.self.invariant.2 c.args.place)
    (λ a r after called. search rules))).1
