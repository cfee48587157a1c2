use Rattle.std.proofs.Common.{rules, sym, ap, ◌∙◌, ◌≡◌, ◌+◌, ◌≤◌, All, subst, List}
use Rattle.turn_gate.proofs.HandlesKept.{ends}
use Rattle.turn_gate.proofs.lock.Gate.close.Goals as goal

pub returns-clause-numbers : goal.returns-clause-numbers
returns-clause-numbers g c = λ is_root. let C = g.V.Chronicle in let seat = c.seat.inside in let turn = c.acquire-value.ensures.turn in let view = turn.view in
    let number : seat.number ≡ 0 = search rules in let given : c.args.seat.given ≡ seat.given = search rules in let draws = c.seat.invariant.1.0 number in
    subst (λ (l : List g.row.V-Entry.Denot). All (λ e. C.number e ≤ c.args.seat.given) l) (ap (λ u. u.observed) view)
    (ends C.origin C.entries C.number (C.origin c.self.inside.table.shared.key.value) _ _ c.acquire-value.new.place.id c.args.seat.given
    c.acquire-value.new.place.me.0
    (ap (λ u. u.marked) view) (ap (λ u. u.draws) view ∙ draws.0) (ap (λ u. u.given) view ∙ (draws.1 ∙ ap (λ n. n + 1) (sym given)))
    c.close_with-closed.ensures.values.2)
