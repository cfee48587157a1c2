use Rattle.std.proofs.Common.{subst, ◌∙◌}
use Rattle.std.specs.List.Sorted.{IsBinarySearchResult}
use Rattle.std.specs.declared.cmp.Ordering.{Ordering}
use Rattle.s57_types.specs.declared.name.RecName.{RecName}
use Rattle.cell_spec.specs.Names.{name_order, same_name}
use Rattle.cell_spec.proofs.Orders.{names_tie, same_from_either, total_names}
use Rattle.row_spec.proofs.Sought.{found}
use Rattle.answer_laws.proofs.Tests.{any_same}
use Rattle.affected_subjects.proofs.second.is_among.Goals as goal

pub returns : goal.returns
returns c =
    let names = c.args.names.now in
    let name = c.args.name in
    c.is_ok.ensures.value ∙ found name_order total_names names name c.binary_search.result c.requires c.binary_search.ensures.bound
    (subst (λ (order : RecName → RecName → Ordering). IsBinarySearchResult (λ (n : RecName). order n name) names c.binary_search.result)
    (λ i a b. c.orders_are_by_parts.ensures.names a b i) c.binary_search.ensures.position)
    ∙ any_same _ (same_name name) (λ n. names_tie name n ∙ same_from_either n name) names
