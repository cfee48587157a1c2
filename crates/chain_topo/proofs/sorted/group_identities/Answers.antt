use Rattle.std.proofs.Common.{◌≡◌, List, map, filter, sym, ap, ◌∙◌}
use Rattle.std.specs.declared.cmp.Ordering.{Ordering}
use Rattle.std.specs.List.Sorted.{IsPermutation}
use Rattle.std.proofs.lemmas.Result.{IfOk-weaker}
use Rattle.s57_types.specs.declared.name.RecName.{RecName}
use Rattle.s57_types.specs.declared.name.Lnam.{Lnam}
use Rattle.s57_types.specs.declared.record.Rec.{Rec}
use Rattle.cell_spec.specs.Ascending.{ascending, order_by}
use Rattle.cell_spec.specs.Lookup.{name_of, bears}
use Rattle.cell_spec.specs.Names.{name_order, identity_parts}
use Rattle.chain_topo.specs.Listed.{pair_order, values_at, identities_listed}
use Rattle.chain_topo.proofs.Named.{identities-listed}
use Rattle.cell_spec.proofs.Orders.{exact_names, exact_identities, total_names, total_identities}
use Rattle.chain_topo.proofs.Moved.{ascending_moved}
use Rattle.chain_topo.proofs.Orders.{exact_pairs, total_pairs}
use Rattle.chain_topo.proofs.Selected.{values-ascending}
use Rattle.chain_topo.proofs.sorted.group_identities.Goals as goal

pub make-requires-clause-exact_keys : goal.make-requires-clause-exact_keys
make-requires-clause-exact_keys c = λ a b e. exact_identities a b (sym (c.orders_are_by_parts.ensures.identities a b) ∙ e)

pub make-requires-clause-exact_values : goal.make-requires-clause-exact_values
make-requires-clause-exact_values c = λ a b e. exact_names a b (sym (c.orders_are_by_parts.ensures.names a b) ∙ e)

-- pairs grouped by orders that are those of identifiers and names
grouped : (by_key : Lnam → Lnam → Ordering) (by_value : RecName → RecName → Ordering) → ((a b : Lnam) → by_key a b ≡ order_by identity_parts a b)
    → ((a b : RecName) → by_value a b ≡ name_order a b)
    → (rs : List Rec) (list dealt groups : List (Lnam × RecName)) → list ≡ identities_listed rs → IsPermutation list dealt
    → groups ≡ ascending (pair_order by_key by_value) dealt
    → (l : Lnam) → values_at (order_by identity_parts) groups l ≡ ascending name_order (map name_of (filter (bears l) rs))
grouped by_key by_value identities names rs list dealt groups listed moved made l =
    ap (λ ps. values_at (order_by identity_parts) ps l) (made ∙ (λ i. ascending (pair_order (λ a b. identities a b i) (λ a b. names a b i)) dealt)
    ∙ ascending_moved (pair_order (order_by identity_parts) name_order) (total_pairs (order_by identity_parts) name_order total_identities total_names)
    (exact_pairs (order_by identity_parts) name_order exact_identities exact_names) list dealt moved
    ∙ ap (ascending (pair_order (order_by identity_parts) name_order)) listed)
    ∙ values-ascending (order_by identity_parts) name_order total_identities l total_names exact_identities exact_names (identities_listed rs)
    ∙ ap (ascending name_order) (identities-listed l rs)

pub returns : goal.returns
returns c =
    IfOk-weaker _ _ _ (λ groups made. grouped _ _ c.orders_are_by_parts.ensures.identities c.orders_are_by_parts.ensures.names
    (map (λ r. r.now) c.args.records.now) c.in_ok-list.list.items c.in_ok-dealt.dealt.items groups
    c.in_ok-list.ensures c.in_ok-dealt.ensures made) c.make.ensures
