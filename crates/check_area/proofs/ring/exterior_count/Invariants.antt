use Rattle.std.proofs.Common.{◌≡◌, ◌+◌, ◌≤◌, drop, filter, length}
use Rattle.rule_spec.specs.Boundary.{none_interior}
use Rattle.rule_spec.specs.Loops.{blocks_of}
use Rattle.check_area.specs.Parts.{usage_of_part}
use Rattle.check_area.proofs.ring.exterior_count.Given as goal

abbrev pub invariant-loop-n : goal.invariant-loop-n
invariant-loop-n l = record {
  counted : l.count + length (filter (none_interior usage_of_part) (blocks_of (drop l.n-index l.lengths) l.rest)) ≡ length
      (filter (none_interior usage_of_part) (blocks_of l.lengths l.fn.parts));
  within : l.count ≤ l.n-index;
}
