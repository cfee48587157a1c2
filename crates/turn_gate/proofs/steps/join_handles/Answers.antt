use Rattle.std.proofs.Common.{arith}
use Rattle.turn_gate.proofs.HandlesKept.{joins_handles}
use Rattle.turn_gate.proofs.steps.join_handles.Goals as goal

pub join_seat-requires : goal.join_seat-requires
join_seat-requires g c = let C = g.V.Chronicle in let words = c.requires.lock.0.1.0 in let free = c.requires.free in let other = c.requires.other_free in (
  c.requires.lock.0.0,
  c.requires.lock.1.0,
  other.0,
  omega arith,
  joins_handles C.origin C.entries C.number (C.origin c.args.lock.now.key.value) _ _ _ _ free.2 free.1 other.2 other.1,
)
