use Rattle.std.proofs.Common.{◌≡◌, ◌≤◌, ◌+◌, ◌++◌, vec_len, vec_capacity, reverse}
use Rattle.row_table.proofs.run.move_tail.Given as goal

abbrev pub invariant-loop-from : goal.invariant-loop-from
invariant-loop-from g l = record {
  place : l.place ≤ vec_len l.from;
  items : l.from.items ++ reverse l.to.items ≡ l.initial.from.items;
  room : vec_len l.to + vec_len l.from ≤ vec_capacity l.to + l.place;
  from_room : vec_capacity l.initial.from ≤ vec_capacity l.from;
  to_room : vec_capacity l.initial.to ≤ vec_capacity l.to;
}

abbrev pub decreases-loop-from : goal.decreases-loop-from
decreases-loop-from g l = vec_len l.from
