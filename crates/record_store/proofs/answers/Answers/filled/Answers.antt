use Rattle.std.proofs.Common.{subst, sym, ap, take_all, ◌∙◌}
use Rattle.std.specs.Prelude.{flat_map}
use Rattle.std.specs.declared.cmp.Ordering.{Ordering}
use Rattle.s57_types.specs.declared.name.RecName.{RecName}
use Rattle.s57_types.specs.declared.name.Lnam.{Lnam}
use Rattle.cell_spec.specs.Names.{identity_order, name_order}
use Rattle.chain_topo.specs.Listed.{values_at}
use Rattle.row_spec.specs.Rows.{IsAscending}
use Rattle.record_store.specs.Stores.{names_row, refs_row}
use Rattle.record_store.proofs.AllPut.{all_put, names_ascend, refs_ascend}
use Rattle.record_store.proofs.answers.Answers.filled.Goals as goal

pub from_ascending-requires : goal.from_ascending-requires
from_ascending-requires c =
    let refs = values_at name_order c.args.pointers.now in
    let rows = c.loop-key.invariant.0 ∙ ap (flat_map (refs_row refs)) (take_all c.loop-key.key-index c.args.keys.now c.loop-key-test.false) in
    subst (λ (order : RecName → RecName → Ordering). IsAscending order c.loop-key.lists.refs.items)
    (λ i a b. sym (c.orders_are_by_parts.ensures.names a b) i)
    (subst (IsAscending name_order) (sym rows) (refs_ascend refs c.args.keys.now c.requires))

pub from_ascending-requires-2 : goal.from_ascending-requires-2
from_ascending-requires-2 c =
    let names = values_at identity_order c.args.bearers.now in
    let rows = c.loop-key.invariant.1 ∙ ap (flat_map (names_row names)) (take_all c.loop-key.key-index c.args.keys.now c.loop-key-test.false) in
    subst (λ (order : Lnam → Lnam → Ordering). IsAscending order c.loop-key.lists.names.items)
    (λ i a b. sym (c.orders_are_by_parts.ensures.identities a b) i)
    (subst (IsAscending identity_order) (sym rows) (names_ascend names c.args.keys.now c.requires))

pub returns : goal.returns
returns c =
    let refs = values_at name_order c.args.pointers.now in
    let names = values_at identity_order c.args.bearers.now in
    let whole = take_all c.loop-key.key-index c.args.keys.now c.loop-key-test.false in
    all_put c.args.keys.now refs names _ _ (c.in_ok-pointers.ensures ∙ c.loop-key.invariant.0 ∙ ap (flat_map (refs_row refs)) whole)
    (c.in_ok-bearers.ensures ∙ c.loop-key.invariant.1 ∙ ap (flat_map (names_row names)) whole)
