use Rattle.std.proofs.Common.{arith, ap, ◌∙◌}
use Rattle.turn_gate.proofs.TurnKept.{looks_for_turn}
use Rattle.turn_gate.proofs.steps.await_turn.Goals as goal

pub load-served-requires : goal.load-served-requires
load-served-requires g c = let C = g.V.Chronicle in let words = c.requires.lock.1.0 in let idle = c.requires.idle in let t =
    c.requires.ticket in let same = c.loop.invariant.2 in (
      c.loop.invariant.0 ∙ c.requires.lock.0,
      omega arith,
      looks_for_turn C.origin C.entries C.number (C.origin c.args.lock.now.key.value) _ _ _ t.0 (ap (λ m. m.1) same ∙ idle.0)
          (ap (λ m. m.0.marked) same ∙ idle.1) (ap (λ m. m.0.ticket) same ∙ t.2),
    )
