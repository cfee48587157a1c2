use Rattle.std.proofs.Common.{arith}
use Rattle.turn_gate.proofs.TurnKept.{passes_turn}
use Rattle.turn_gate.proofs.steps.pass_turn.Goals as goal

pub fetch_add-served-requires : goal.fetch_add-served-requires
fetch_add-served-requires g c = let C = g.V.Chronicle in let words = c.requires.lock.1.0 in let value = c.requires.value in let history = value.3 in (
  c.requires.lock.0,
  omega arith,
  passes_turn C.origin C.entries C.number (C.origin c.args.lock.now.key.value) _ _ _ value.0 history.0 value.1 c.requires.turn value.2 history.1 history.2,
)
