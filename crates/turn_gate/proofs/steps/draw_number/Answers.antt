use Rattle.std.proofs.Common.{arith}
use Rattle.turn_gate.proofs.HandlesKept.{draws_number}
use Rattle.turn_gate.proofs.steps.draw_number.Goals as goal

pub fetch_add-requires : goal.fetch_add-requires
fetch_add-requires g c = let C = g.V.Chronicle in let words = c.requires.lock.1.0 in let draws = c.requires.draws in (
  c.requires.lock.0,
  omega arith,
  draws_number C.origin C.entries C.number (C.origin c.args.lock.now.key.value) _ _ _ draws.0 draws.1,
)
