use Rattle.std.proofs.Common.{rules, refl, ap, ◌≡◌}
use Rattle.turn_gate.proofs.AfterCalls.{turn_taken, turn_kept}
use Rattle.turn_gate.proofs.lock.Gate.turn.Goals as goal

pub invariant_of-seat : goal.invariant_of-seat
invariant_of-seat g c = let C = g.V.Chronicle in let seat = c.seat.inside in
    turn_kept C.origin C.entries C.number seat.place.me.0 c.acquire-value.new.place.me.0 c.release.new.place.me.0 c.acquire-value.result
    c.act-answer.new.value seat.number seat.given
    c.acquire-value.ensures.turn (ap (λ m. m.0) c.release.ensures.passed) c.seat.invariant.0 c.seat.invariant.1

pub returns-clause-turn : goal.returns-clause-turn
returns-clause-turn g c = let C = g.V.Chronicle in let seat = c.seat.inside in let did = c.act-answer.ensures in let old = c.args.seat.now in
    let number : old.number ≡ seat.number = search rules in let observed : old.observed ≡ seat.place.me.0.observed = search rules in
    let own : old.own ≡ seat.place.me.0.own = search rules in
    turn_taken C.origin C.entries C.number seat.place.me.0 c.acquire-value.new.place.me.0 c.release.new.place.me.0 c.acquire-value.result
    c.act-answer.new.value seat.number
    (λ before after. g.D.Deed.relates c.args.deed before c.act-answer.result after) old _
    c.acquire-value.ensures.turn did.history did.relation (ap (λ m. m.0) c.release.ensures.passed) number observed own refl refl

pub returns-clause-exact : goal.returns-clause-exact
returns-clause-exact g c = (invariant_of-seat g c).2
