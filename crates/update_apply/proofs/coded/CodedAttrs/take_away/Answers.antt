use Rattle.std.proofs.Common.{cond, false, ap, ◌∙◌}
use Rattle.std.specs.Ordering.{is_eq}
use Rattle.update_apply.specs.CodedAttributes.{place_order}
use Rattle.update_apply.proofs.CodedAttributes.{removed}
use Rattle.update_apply.proofs.coded.CodedAttrs.take_away.Goals as goal

pub returns-clause-indexed : goal.returns-clause-indexed
returns-clause-indexed c code k = let place = c.args.place in
    c.remove.ensures.updates.0 (code, k)
    ∙ ap (λ stands. cond (is_eq (place_order (c.args.code, place) (code, k))) false stands) (c.requires.indexed code k)
    ∙ removed c.args.code c.args.self.now.slots.items place c.requires.stands code k
