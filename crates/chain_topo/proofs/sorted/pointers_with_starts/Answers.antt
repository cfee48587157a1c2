use Rattle.std.proofs.Common.{◌≡◌, List, map, flat_map, sym, ap, ◌∙◌}
use Rattle.std.specs.declared.cmp.Ordering.{Ordering}
use Rattle.std.specs.List.Sorted.{IsPermutation}
use Rattle.s57_types.specs.declared.name.RecName.{RecName}
use Rattle.s57_types.specs.declared.record.Rec.{Rec}
use Rattle.cell_spec.specs.declared.key.Ref.{Ref}
use Rattle.cell_spec.specs.Ascending.{ascending}
use Rattle.cell_spec.specs.Lookup.{pointers_in}
use Rattle.cell_spec.specs.Names.{name_order, ref_order}
use Rattle.chain_topo.specs.Listed.{pair_order, values_at, pointers_listed}
use Rattle.chain_topo.proofs.Named.{pointers-listed}
use Rattle.cell_spec.proofs.Orders.{exact_names, exact_refs, total_names, total_refs}
use Rattle.chain_topo.proofs.Moved.{ascending_moved}
use Rattle.chain_topo.proofs.Orders.{exact_pairs, total_pairs}
use Rattle.chain_topo.proofs.Selected.{values-ascending}
use Rattle.chain_topo.proofs.sorted.pointers_with_starts.Goals as goal

pub make-requires-clause-exact_keys : goal.make-requires-clause-exact_keys
make-requires-clause-exact_keys c = λ a b e. exact_names a b (sym (c.orders_are_by_parts.ensures.names a b) ∙ e)

pub make-requires-clause-exact_values : goal.make-requires-clause-exact_values
make-requires-clause-exact_values c = λ a b e. exact_refs a b (sym (c.orders_are_by_parts.ensures.refs a b) ∙ e)

-- pairs grouped by orders that are those of names and pointers
grouped : (by_key : RecName → RecName → Ordering) (by_value : Ref → Ref → Ordering) → ((a b : RecName) → by_key a b ≡ name_order a b)
    → ((a b : Ref) → by_value a b ≡ ref_order a b)
    → (rs : List Rec) (list dealt groups : List (RecName × Ref)) → list ≡ pointers_listed rs → IsPermutation list dealt
    → groups ≡ ascending (pair_order by_key by_value) dealt
    → (n : RecName) → values_at name_order groups n ≡ ascending ref_order (flat_map (pointers_in n) rs)
grouped by_key by_value names refs rs list dealt groups listed moved made n =
    ap (λ ps. values_at name_order ps n) (made ∙ (λ i. ascending (pair_order (λ a b. names a b i) (λ a b. refs a b i)) dealt)
    ∙ ascending_moved (pair_order name_order ref_order) (total_pairs name_order ref_order total_names total_refs)
    (exact_pairs name_order ref_order exact_names exact_refs) list dealt moved ∙ ap (ascending (pair_order name_order ref_order)) listed)
    ∙ values-ascending name_order ref_order total_names n total_refs exact_names exact_refs (pointers_listed rs)
    ∙ ap (ascending ref_order) (pointers-listed n rs)

pub returns : goal.returns
returns c =
    grouped _ _ c.orders_are_by_parts.ensures.names c.orders_are_by_parts.ensures.refs (map (λ r. r.now) c.args.records.now) c.in_ok-list.list.items
    c.in_ok-dealt.dealt.items c.in_ok-groups.groups c.in_ok-list.ensures c.in_ok-dealt.ensures c.in_ok-groups.ensures
