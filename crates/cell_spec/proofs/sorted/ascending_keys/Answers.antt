use Rattle.std.proofs.Common.{sym, ◌∙◌}
use Rattle.cell_spec.specs.Ascending.{ascending}
use Rattle.cell_spec.proofs.Orders.{exact_keys}
use Rattle.cell_spec.proofs.sorted.ascending_keys.Goals as goal

pub distinct-requires : goal.distinct-requires
distinct-requires c = record { exact = λ a b e. exact_keys a b (sym (c.orders_are_by_parts.ensures.keys a b) ∙ e) }

-- a list is put in order by what the order says of each two items
pub returns : goal.returns
returns c = c.of_vec.ensures ∙ c.distinct.ensures ∙ (λ i. ascending (λ a b. c.orders_are_by_parts.ensures.keys a b i) c.args.keys.items)
