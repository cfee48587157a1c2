use Rattle.std.proofs.Common.{◌∙◌}
use Rattle.chain_topo.specs.Listed.{values_at}
use Rattle.chain_topo.proofs.sorted.pointers_to.Goals as goal

pub returns : goal.returns
returns c = c.values_near.ensures ∙ (λ i. values_at (λ a b. c.orders_are_by_parts.ensures.names a b i) c.args.pointers.now c.args.name)
