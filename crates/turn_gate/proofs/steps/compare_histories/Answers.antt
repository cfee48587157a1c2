use Rattle.std.proofs.Common.{arith}
use Rattle.turn_gate.proofs.HandlesKept.{compares_histories}
use Rattle.turn_gate.proofs.steps.compare_histories.Goals as goal

pub load-requires : goal.load-requires
load-requires g c = let C = g.V.Chronicle in let words = c.requires.lock.1.0 in (
  c.requires.lock.0,
  omega arith,
  compares_histories C.origin C.entries C.number (C.origin c.args.lock.now.key.value) _ _ _,
)
