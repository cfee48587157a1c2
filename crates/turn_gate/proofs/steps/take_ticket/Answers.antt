use Rattle.std.proofs.Common.{arith}
use Rattle.turn_gate.proofs.TurnKept.{takes_ticket}
use Rattle.turn_gate.proofs.steps.take_ticket.Goals as goal

pub fetch_add-requires : goal.fetch_add-requires
fetch_add-requires g c = let C = g.V.Chronicle in let words = c.requires.lock.1.0 in let free = c.requires.free in (
  c.requires.lock.0,
  omega arith,
  takes_ticket C.origin C.entries C.number (C.origin c.args.lock.now.key.value) _ _ _ free.1 free.2,
)
