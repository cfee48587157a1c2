use Rattle.std.proofs.Common.{ℕ, ◌<◌}
use Rattle.frame_spec.specs.RecordFrame.{IsEntry}
use Rattle.iso_frame.proofs.leader.read_directory.Given as goal

abbrev pub invariant-loop-k : goal.invariant-loop-k
invariant-loop-k l = (j : ℕ) → j < l.k → IsEntry l.bytes l.at j
