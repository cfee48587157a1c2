use Rattle.std.proofs.Common.{arith}
use Rattle.turn_gate.proofs.HandlesKept.{splits_handle}
use Rattle.turn_gate.proofs.steps.split_handle.Goals as goal

pub split_seat-requires : goal.split_seat-requires
split_seat-requires g c = let C = g.V.Chronicle in let words = c.requires.lock.1.0 in let free = c.requires.free in let draws = c.requires.draws in (
  c.requires.lock.0,
  omega arith,
  splits_handle C.origin C.entries C.number (C.origin c.args.lock.now.key.value) _ _ draws.0 draws.1 c.requires.given free.2 free.1,
)
