use Rattle.std.proofs.Common.{[], ◌∷◌, cond, sym, ap, ◌∙◌, is_eq}
use Rattle.pair_set.specs.Pairs.{seconds_under}
use Rattle.row_spec.proofs.Pairs.{under-cons}
use Rattle.pair_set.proofs.seconds.SecondsIterator.next.Goals as goal

pub returns-in-Some-clause-steps : goal.returns-in-Some-clause-steps
returns-in-Some-clause-steps g c =
    let first = c.self.inside.first in
    let row = c.in-Some.row.now in
    let rest = seconds_under g.A.Ord.cmp first c.next.new.self in
    sym c.self.view_is
    ∙ ap (λ b. cond b [] (seconds_under g.A.Ord.cmp first c.self.inside.rest)) c.if-self.false
    ∙ ap (seconds_under g.A.Ord.cmp first) c.in-Some.ensures.steps
    ∙ under-cons g.A.Ord.cmp first row c.next.new.self
    ∙ ap (λ b. cond b (row.0.1 ∷ rest) []) (sym (c.is_eq.ensures ∙ ap is_eq c.cmp.ensures) ∙ c.if-is_eq.true)
    ∙ ap (λ b. row.0.1 ∷ cond b [] rest) (sym c.if-self.false)
