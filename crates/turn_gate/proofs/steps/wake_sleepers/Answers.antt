use Rattle.std.proofs.Common.{arith}
use Rattle.turn_gate.proofs.TurnKept.{calls_sleepers}
use Rattle.turn_gate.proofs.steps.wake_sleepers.Goals as goal

pub fetch_add-requires : goal.fetch_add-requires
fetch_add-requires g c = let C = g.V.Chronicle in let words = c.requires.lock.1.0 in let word = c.sleep_word-word.ensures in (
  c.requires.lock.0,
  omega arith,
  calls_sleepers C.origin C.entries C.number (C.origin c.args.lock.now.key.value) _ _ _ _ word.0,
)
