use Rattle.std.proofs.Common.{◌≡◌, ◌≤◌, ◌-◌, All, vec_len, vec_capacity}
use Rattle.row_spec.specs.Blocks.{IsEmptyRun}
use Rattle.row_table.proofs.blocks.fill.Given as goal

abbrev pub invariant-loop-alloc : goal.invariant-loop-alloc
invariant-loop-alloc g l = record {
  empty : All IsEmptyRun l.free.items;
  more : vec_len l.initial.free ≤ vec_len l.free;
  most : vec_len l.free ≤ l.wanted;
  capacity : vec_capacity l.free ≡ vec_capacity l.initial.free;
}

abbrev pub decreases-loop-alloc : goal.decreases-loop-alloc
decreases-loop-alloc g l = l.wanted - vec_len l.free
