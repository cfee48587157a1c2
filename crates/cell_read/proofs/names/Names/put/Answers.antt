use Rattle.std.proofs.Common.{◌||◌, true, cond, is_eq, sym, ap, ◌∙◌}
use Rattle.std.specs.BTreeSet.{contains}
use Rattle.std.specs.List.{list_any}
use Rattle.cell_spec.specs.Names.{name_order, same_name}
use Rattle.cell_spec.proofs.Orders.{names_tie}
use Rattle.cell_read.proofs.NamesInOrder.{one_more}
use Rattle.cell_read.proofs.names.Names.put.Goals as goal

pub returns-in_ok-insert-clause-names : goal.returns-in_ok-insert-clause-names
returns-in_ok-insert-clause-names c n =
    let names = c.orders_are_by_parts.ensures.names in
    let name = c.args.name in
    let old = c.args.self.now in
    let before = list_any (same_name n) old.ascending.items in
    ap (λ b. before || b)
    ((λ i. contains (λ a b. sym (names a b) i) c.insert.new.self n)
    ∙ c.in_ok-insert.ensures.updates.0 n
    ∙ (λ i. cond (is_eq (names name n i)) true (contains (λ a b. names a b i) old.others n))
    ∙ ap (λ b. cond b true (contains name_order old.others n)) (names_tie name n))
    ∙ one_more before (same_name n name) (contains name_order old.others n)
