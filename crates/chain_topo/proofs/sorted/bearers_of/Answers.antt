use Rattle.std.proofs.Common.{◌∙◌}
use Rattle.chain_topo.specs.Listed.{values_at}
use Rattle.chain_topo.proofs.sorted.bearers_of.Goals as goal

pub returns : goal.returns
returns c = c.values_of.ensures ∙ (λ i. values_at (λ a b. c.orders_are_by_parts.ensures.identities a b i) c.args.identities.now c.args.foid)
