use Rattle.std.proofs.Common.{◌≡◌, OnOk, length, subst, sym, ap, ◌∙◌, eqb-true}
use Rattle.std.specs.declared.cmp.Ordering.{Ordering}
use Rattle.std.proofs.lemmas.Result.{on_ok_weaker}
use Rattle.s57_types.specs.declared.name.RecName.{RecName}
use Rattle.cell_spec.specs.Names.{name_order}
use Rattle.cell_spec.proofs.Orders.{total_names}
use Rattle.row_spec.specs.Rows.{IsAscending, with_row, without_key}
use Rattle.row_spec.proofs.Runs.{nil_from_length}
use Rattle.record_store.specs.Stores.{ListIsPut}
use Rattle.record_store.proofs.Put.{list_gone, list_put}
use Rattle.record_store.proofs.answers.Answers.put_refs.Goals as goal

pub returns-then-is_empty-clause-pointers : goal.returns-then-is_empty-clause-pointers
returns-then-is_empty-clause-pointers c =
    let rows = c.args.self.now.pointers in
    let none = nil_from_length c.args.refs (eqb-true (length c.args.refs) 0 (sym c.is_empty.ensures ∙ c.if-is_empty.true)) in
    let both = subst (λ (order : RecName → RecName → Ordering). IsAscending order rows
    × OnOk c.take.result (c.take.new.self ≡ without_key order rows c.args.name))
    (λ i a b. c.orders_are_by_parts.ensures.names a b i) (c.len-count.ensures.ascending, c.take.ensures.ok) in
    on_ok_weaker c.take.result (λ is. subst (ListIsPut name_order c.args.name c.args.refs rows) (sym is)
    (list_gone name_order total_names rows c.args.name c.args.refs none both.0)) both.1

pub returns-clause-pointers : goal.returns-clause-pointers
returns-clause-pointers c =
    let rows = c.args.self.now.pointers in
    let put = subst (λ (order : RecName → RecName → Ordering). OnOk c.put.result (c.put.new.self ≡ with_row order rows c.args.name c.in_ok-make.field-0))
    (λ i a b. c.orders_are_by_parts.ensures.names a b i) c.put.ensures.ok in
    on_ok_weaker c.put.result
    (λ is. subst (ListIsPut name_order c.args.name c.args.refs rows) (sym (is ∙ ap (with_row name_order rows c.args.name) c.in_ok-make.ensures))
    (list_put name_order total_names rows c.args.name c.args.refs)) put
