use Rattle.std.proofs.Common.{Err, get_or, rules, sym, subst, ◌∙◌}
use Rattle.std.specs.Borrow.{Bor}
use Rattle.std.specs.declared.cmp.Ordering.{Ordering}
use Rattle.std.specs.List.Sorted.{IsBinarySearchResult}
use Rattle.std.proofs.lemmas.Fn.{always_returns_same}
use Rattle.std.proofs.lemmas.List.Sorted.{searchable_from_sorted}
use Rattle.s57_types.specs.declared.name.RecName.{RecName}
use Rattle.s57_types.specs.declared.record.Rec.{Rec}
use Rattle.cell_spec.specs.Lookup.{name_of}
use Rattle.chain_topo.proofs.Named.{found-there, found-none, none-between}
use Rattle.cell_spec.proofs.Orders.{total_names}
use Rattle.chain_topo.proofs.sorted.find_sorted.Goals as goal

pub returns-in-Ok : goal.returns-in-Ok
returns-in-Ok c =
    let ties = c.in-Ok.ensures.position (λ r. name_of r.now) (always_returns_same _ _ _ (λ a r after called. search rules)) in
    sym (found-there c.args.name c.args.records.now c.in-Ok.k c.index-records-k.result c.requires.distinct c.in-Ok.ensures.bound c.index-records-k.is
    (sym (c.orders_are_by_parts.ensures.names (name_of (get_or c.args.records.now c.in-Ok.k c.index-records-k.result).now) c.args.name)
    ∙ ties c.index-records-k.result))

pub returns-in-Err : goal.returns-in-Err
returns-in-Err c =
    let parts = c.in-Err.ensures.position (λ r. name_of r.now) (always_returns_same _ _ _ (λ a r after called. search rules)) in
    let point = subst (λ (order : RecName → RecName → Ordering). IsBinarySearchResult
    (λ (r : Bor Rec). order (name_of r.now) c.args.name) c.args.records.now (Err c.in-Err.field-0))
    (λ i a b. c.orders_are_by_parts.ensures.names a b i) parts in
    sym (found-none c.args.name _ (none-between c.args.name c.args.records.now c.in-Err.field-0
    (point (searchable_from_sorted total_names (λ (r : Bor Rec). name_of r.now) c.args.records.now c.args.name c.requires.rises))))
