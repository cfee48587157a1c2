use Rattle.std.proofs.Common.{subst, sym, ◌∙◌}
use Rattle.std.specs.List.{list_any}
use Rattle.std.specs.List.Sorted.{IsBinarySearchResult, IsStrictlySortedBy}
use Rattle.std.specs.declared.cmp.Ordering.{Ordering}
use Rattle.s57_types.specs.declared.name.RecName.{RecName}
use Rattle.cell_spec.specs.Names.{name_order}
use Rattle.cell_spec.proofs.Orders.{names_tie, same_from_either, total_names}
use Rattle.row_spec.proofs.Sought.{found}
use Rattle.cell_read.proofs.NamesInOrder.{none_behind}
use Rattle.cell_read.proofs.names.Names.is_among.Goals as goal

pub returns-then-comes_last : goal.returns-then-comes_last
returns-then-comes_last c = sym (none_behind c.args.self.now.ascending.items c.args.name (c.comes_last.ensures c.if-comes_last.true))

pub returns : goal.returns
returns c =
    let names = c.deref.result.now in
    let name = c.args.name in
    let items = c.deref.ensures.value in
    c.is_ok.ensures.value
    ∙ found name_order total_names names name c.binary_search.result (subst (IsStrictlySortedBy name_order) (sym items) c.requires)
    c.binary_search.ensures.bound
    (subst (λ (order : RecName → RecName → Ordering). IsBinarySearchResult (λ (n : RecName). order n name) names c.binary_search.result)
    (λ i a b. c.orders_are_by_parts.ensures.names a b i) c.binary_search.ensures.position)
    ∙ (λ i. list_any (λ n. (names_tie name n ∙ same_from_either n name) i) (items i))
