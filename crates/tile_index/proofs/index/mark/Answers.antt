use Rattle.std.proofs.Common.{◌≡◌, OnOk, cond, is_some, subst, sym, ap, ◌∙◌, is_eq, Bool, true, false, None, Some, Option, refl}
use Rattle.std.proofs.lemmas.Result.{on_ok_weaker}
use Rattle.std.specs.declared.cmp.Ordering.{Ordering}
use Rattle.s57_types.specs.declared.name.RecName.{RecName}
use Rattle.cell_spec.specs.Names.{name_order}
use Rattle.cell_spec.proofs.Orders.{total_names}
use Rattle.row_spec.specs.Rows.{IsAscending, value_of, with_row, without_key}
use Rattle.row_spec.proofs.Changes.{value_of-with_row, value_of-without_key}
use Rattle.tile_index.proofs.index.mark.Goals as goal

some_put : {V : Type 0} (v : V) (o : Option V) (b is : Bool) → is ≡ true → is_some (cond b (Some v) o) ≡ cond b is (is_some o)
some_put v o true is e = sym e
some_put v o false is e = refl

some_took : {V : Type 0} (o : Option V) (b is : Bool) → is ≡ false → is_some (cond b None o) ≡ cond b is (is_some o)
some_took o true is e = sym e
some_took o false is e = refl

pub returns-then-is : goal.returns-then-is
returns-then-is c =
    let rows = c.args.oversized.now in
    let ok = subst (λ (order : RecName → RecName → Ordering). OnOk c.put.result (c.put.new.self ≡ with_row order rows c.args.name tt))
    (λ i a b. c.orders_are_by_parts.ensures.names a b i) c.put.ensures.ok in
    on_ok_weaker c.put.result (λ put n.
    ap (λ those. is_some (value_of name_order those n)) put
    ∙ ap is_some (value_of-with_row name_order total_names rows c.args.name n tt)
    ∙ some_put tt (value_of name_order rows n) (is_eq (name_order c.args.name n)) c.args.is c.if-is.true) ok

pub returns-else-is : goal.returns-else-is
returns-else-is c =
    let rows = c.args.oversized.now in
    let both = subst (λ (order : RecName → RecName → Ordering). OnOk c.take.result (c.take.new.self ≡ without_key order rows c.args.name)
    × IsAscending order rows)
    (λ i a b. c.orders_are_by_parts.ensures.names a b i) (c.take.ensures.ok, c.len-count.ensures.ascending) in
    on_ok_weaker c.take.result (λ took n.
    ap (λ those. is_some (value_of name_order those n)) took
    ∙ ap is_some (value_of-without_key name_order total_names rows c.args.name n both.1)
    ∙ some_took (value_of name_order rows n) (is_eq (name_order c.args.name n)) c.args.is c.if-is.false) both.0
