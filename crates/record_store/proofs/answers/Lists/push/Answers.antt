use Rattle.std.proofs.Common.{◌≡◌, ◌++◌, [], ◌∷◌, subst, sym, ap, ◌∙◌}
use Rattle.std.specs.declared.cmp.Ordering.{Ordering}
use Rattle.s57_types.specs.declared.name.RecName.{RecName}
use Rattle.s57_types.specs.declared.name.Lnam.{Lnam}
use Rattle.cell_spec.specs.Names.{identity_order, name_order}
use Rattle.chain_topo.specs.Listed.{values_at}
use Rattle.record_store.specs.Stores.{names_row, refs_row}
use Rattle.record_store.proofs.answers.Lists.push.Goals as goal

pub returns-in_ok-push-in-Refs-clause-refs : goal.returns-in_ok-push-in-Refs-clause-refs
returns-in_ok-push-in-Refs-clause-refs c =
    let before = c.args.self.now.refs.items in
    let value = c.in_ok-make-in-Refs.ensures ∙ c.in_ok-refs-in-Refs.ensures ∙ subst
    (λ (order : RecName → RecName → Ordering). c.values_of.result.now ≡ values_at order c.args.pointers.now c.in-Refs.name)
    (λ i a b. c.orders_are_by_parts.ensures.names a b i) c.values_of.ensures in
    c.in_ok-push-in-Refs.ensures.items ∙ ap (λ list. before ++ (c.in-Refs.name, list) ∷ []) value
    ∙ ap (λ key. before ++ refs_row (values_at name_order c.args.pointers.now) key) (sym c.in-Refs.is)

pub returns-in_ok-push-in-Foid-clause-names : goal.returns-in_ok-push-in-Foid-clause-names
returns-in_ok-push-in-Foid-clause-names c =
    let before = c.args.self.now.names.items in
    let value = c.in_ok-make-in-Foid.ensures ∙ c.in_ok-names-in-Foid.ensures ∙ subst
    (λ (order : Lnam → Lnam → Ordering). c.values_of-in-Foid.result.now ≡ values_at order c.args.bearers.now c.in-Foid.foid)
    (λ i a b. c.orders_are_by_parts.ensures.identities a b i) c.values_of-in-Foid.ensures in
    c.in_ok-push-in-Foid.ensures.items ∙ ap (λ list. before ++ (c.in-Foid.foid, list) ∷ []) value
    ∙ ap (λ key. before ++ names_row (values_at identity_order c.args.bearers.now) key) (sym c.in-Foid.is)
