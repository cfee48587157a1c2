use Rattle.std.proofs.Common.{ap}
use Rattle.turn_gate.proofs.AfterCalls.{join_kept}
use Rattle.turn_gate.proofs.lock.Gate.merge.Goals as goal

pub invariant_of-into : goal.invariant_of-into
invariant_of-into g c = let C = g.V.Chronicle in let into = c.into.inside in
    join_kept C.number into.place.me.0 c.from.inside.place.me.0 c.join_handles.new.place.me.0 c.compare_histories.new.place.me.0 into.number into.given
    (ap (λ m. m.0) c.join_handles.ensures.joined) (ap (λ m. m.0) c.compare_histories.ensures.compared) c.compare_histories.ensures.told
    c.into.invariant.0 c.into.invariant.1
