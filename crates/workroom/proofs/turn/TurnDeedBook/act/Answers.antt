use mathlib.Core.List.{IsPrefix}
use Rattle.std.proofs.Common.{sym, subst, ap, ◌∙◌}
use Rattle.workroom.specs.Turns.{TurnState}
use Rattle.workroom.proofs.Moves.{can_ask}
use Rattle.workroom.proofs.turn.TurnDeedBook.act.Goals as goal

pub answer-requires : goal.answer-requires
answer-requires c =
    let turn = c.self.inside in
    let book = c.args.value.now in
    can_ask (record { ask = turn.ask; opening = turn.seat.value.origin; seen = turn.seat.value.observed }) book
    (c.requires.origin ∙ sym (ap (λ (t : TurnState). t.opening) c.self.view_is))
    (subst (λ (t : TurnState). IsPrefix t.seen book.entries) (sym c.self.view_is) c.requires.known)
    c.self.invariant
