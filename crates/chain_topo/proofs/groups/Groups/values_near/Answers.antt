use Rattle.std.proofs.Common.{subst}
use Rattle.chain_topo.specs.Span.{IsSpan}
use Rattle.chain_topo.proofs.Parts.{group-between}
use Rattle.chain_topo.proofs.groups.Groups.values_near.Goals as goal

pub returns-then-is_span : goal.returns-then-is_span
returns-then-is_span g c =
    let span = subst (λ keys. IsSpan g.K.Ord.cmp c.args.key.now keys c.args.from c.args.to) c.deref.ensures.value
    (c.is_span.ensures.span c.if-is_span.true) in
    rw (← c.self.view_is, c.deref-then-is_span.ensures.value)
    (group-between g.K.Ord.cmp c.args.key.now c.self.inside.keys.items c.self.inside.values.items c.args.from c.args.to c.self.invariant.0 span)
