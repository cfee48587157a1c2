use Rattle.std.proofs.Common.{◌≡◌, drop}
use Rattle.rule_spec.specs.Loops.{loop_length}
use Rattle.ring_build.proofs.FrontLoop.{returns_at}
use Rattle.ring_build.proofs.partition.loop_length.Given as goal

abbrev pub invariant-loop-k : goal.invariant-loop-k
invariant-loop-k l = returns_at l.k l.first.0 l.node (drop l.k l.ends) ≡ loop_length l.ends
