use Rattle.std.proofs.Common.{◌≡◌, OnOk, length, subst, sym, ap, ◌∙◌, eqb-true}
use Rattle.std.specs.declared.cmp.Ordering.{Ordering}
use Rattle.std.proofs.lemmas.Result.{on_ok_weaker}
use Rattle.s57_types.specs.declared.name.Lnam.{Lnam}
use Rattle.cell_spec.specs.Names.{identity_order}
use Rattle.cell_spec.proofs.Orders.{total_identities}
use Rattle.row_spec.specs.Rows.{IsAscending, with_row, without_key}
use Rattle.row_spec.proofs.Runs.{nil_from_length}
use Rattle.record_store.specs.Stores.{ListIsPut}
use Rattle.record_store.proofs.Put.{list_gone, list_put}
use Rattle.record_store.proofs.answers.Answers.put_bearers.Goals as goal

pub returns-then-is_empty-clause-bearers : goal.returns-then-is_empty-clause-bearers
returns-then-is_empty-clause-bearers c =
    let rows = c.args.self.now.bearers in
    let none = nil_from_length c.args.names (eqb-true (length c.args.names) 0 (sym c.is_empty.ensures ∙ c.if-is_empty.true)) in
    let both = subst (λ (order : Lnam → Lnam → Ordering). IsAscending order rows × OnOk c.take.result (c.take.new.self ≡ without_key order rows c.args.foid))
    (λ i a b. c.orders_are_by_parts.ensures.identities a b i) (c.len-count.ensures.ascending, c.take.ensures.ok) in
    on_ok_weaker c.take.result (λ is. subst (ListIsPut identity_order c.args.foid c.args.names rows) (sym is)
    (list_gone identity_order total_identities rows c.args.foid c.args.names none both.0)) both.1

pub returns-clause-bearers : goal.returns-clause-bearers
returns-clause-bearers c =
    let put = subst (λ (order : Lnam → Lnam → Ordering). OnOk c.put.result
    (c.put.new.self ≡ with_row order c.args.self.now.bearers c.args.foid c.in_ok-make.field-0))
    (λ i a b. c.orders_are_by_parts.ensures.identities a b i) c.put.ensures.ok in
    on_ok_weaker c.put.result
    (λ is. subst (ListIsPut identity_order c.args.foid c.args.names c.args.self.now.bearers)
    (sym (is ∙ ap (with_row identity_order c.args.self.now.bearers c.args.foid) c.in_ok-make.ensures))
    (list_put identity_order total_identities c.args.self.now.bearers c.args.foid c.args.names)) put
