use Rattle.std.proofs.Common.{sym, ◌∙◌}
use Rattle.cell_spec.specs.Ascending.{ascending}
use Rattle.cell_spec.proofs.Orders.{exact_keys}
use Rattle.record_store.proofs.load.in_order.Goals as goal

pub distinct_by_keys-requires : goal.distinct_by_keys-requires
distinct_by_keys-requires c = record { exact = λ a b e. exact_keys a b (sym (c.orders_are_by_parts.ensures.keys a b) ∙ e) }

-- a list is put in order by what the order says of each two items
pub returns : goal.returns
returns c = c.of_vec.ensures ∙ c.in_ok-keys.ensures ∙ (λ i. ascending (λ a b. c.orders_are_by_parts.ensures.keys a b i) c.args.keys.items)
