use Rattle.std.proofs.Common.{subst, ◌∙◌}
use Rattle.std.specs.List.Sorted.{IsBinarySearchResult}
use Rattle.std.specs.declared.cmp.Ordering.{Ordering}
use Rattle.cell_spec.specs.declared.key.Key.{Key}
use Rattle.cell_spec.specs.Names.{key_order}
use Rattle.cell_spec.proofs.Orders.{total_keys}
use Rattle.row_spec.proofs.Sought.{found}
use Rattle.cell_spec.proofs.sorted.has_key.Goals as goal

pub returns : goal.returns
returns c =
    c.is_ok.ensures.value ∙ found key_order total_keys c.args.keys.now c.args.key.now c.binary_search.result c.requires c.binary_search.ensures.bound
    (subst (λ (order : Key → Key → Ordering). IsBinarySearchResult (λ (k : Key). order k c.args.key.now) c.args.keys.now c.binary_search.result)
    (λ i a b. c.orders_are_by_parts.ensures.keys a b i) c.binary_search.ensures.position)
