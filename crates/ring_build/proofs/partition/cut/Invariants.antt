use Rattle.std.proofs.Common.{◌≡◌, ◌+◌, ◌++◌, length, sum_by}
use Rattle.rule_spec.specs.Loops.{loop_lengths}
use Rattle.ring_build.specs.Partition.{blocks_after}
use Rattle.ring_build.proofs.partition.cut.Given as goal

-- what is left gives the loops and the pieces that are missing
abbrev pub invariant-loop-rest : goal.invariant-loop-rest
invariant-loop-rest l = record {
  placed : l.loops ++ blocks_after l.done (loop_lengths l.rest) ≡ blocks_after 0 (loop_lengths l.fn.ends);
  counted : l.done + sum_by (λ n. n) (loop_lengths l.rest) ≡ sum_by (λ n. n) (loop_lengths l.fn.ends);
  left : l.done + length l.rest ≡ length l.fn.ends;
}

abbrev pub decreases-loop-rest : goal.decreases-loop-rest
decreases-loop-rest l = length l.rest
