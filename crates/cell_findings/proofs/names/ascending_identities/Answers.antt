use Rattle.std.proofs.Common.{sym, ◌∙◌}
use Rattle.cell_spec.specs.Ascending.{ascending}
use Rattle.cell_spec.proofs.Orders.{exact_identities}
use Rattle.cell_findings.proofs.names.ascending_identities.Goals as goal

pub distinct-requires : goal.distinct-requires
distinct-requires c = record { exact = λ a b e. exact_identities a b (sym (c.orders_are_by_parts.ensures.identities a b) ∙ e) }

-- a list is put in order by what the order says of each two items
pub returns : goal.returns
returns c = c.distinct.ensures ∙ (λ i. ascending (λ a b. c.orders_are_by_parts.ensures.identities a b i) c.args.identities.items)
