use Rattle.std.proofs.Common.{rules, subst}
use Rattle.std.specs.declared.cmp.Ordering.{Ordering}
use Rattle.std.specs.List.Sorted.{IsSortedByKey}
use Rattle.std.proofs.lemmas.Fn.{always_returns_same}
use Rattle.s57_types.specs.declared.name.RecName.{RecName}
use Rattle.cell_spec.specs.Lookup.{name_of}
use Rattle.chain_topo.proofs.sorted.sorted_by_name.Goals as goal

pub returns-clause-rises : goal.returns-clause-rises
returns-clause-rises c =
    subst (λ (order : RecName → RecName → Ordering). IsSortedByKey (λ r. name_of r.now) order c.sort_unstable_by_key.new.self.items)
    (λ i a b. c.orders_are_by_parts.ensures.names a b i)
    (c.sort_unstable_by_key.ensures.sorted (λ r. name_of r.now) (always_returns_same _ _ _ (λ a r after called. search rules)))
