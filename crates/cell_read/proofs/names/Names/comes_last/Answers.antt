use Rattle.std.proofs.Common.{◌≡◌, ◌-◌, length, get_or, sym, ap, ◌∙◌, arith}
use Rattle.cell_spec.specs.Names.{name_order}
use Rattle.cell_read.proofs.NamesInOrder.{ascends-push, less_when}
use Rattle.cell_read.proofs.names.Names.comes_last.Goals as goal

pub returns-in-Some : goal.returns-in-Some
returns-in-Some c is =
    let name = c.args.name in
    let items = c.deref.ensures.value in
    ascends-push c.args.self.now.ascending.items name c.requires (λ k long.
    let place : length c.deref.result.now - 1 ≡ k = omega (arith, long, ap length items) in
    let last = c.in-Some.ensures.item.3.1 name ∙ (λ i. get_or (items i) (place i) name) in
    (λ i. name_order (sym last i) name)
    ∙ sym (c.orders_are_by_parts.ensures.names c.in-Some.last.now name)
    ∙ sym c.cmp.ensures
    ∙ less_when c.cmp.result (sym c.is_lt.ensures ∙ is))

pub returns-in-None : goal.returns-in-None
returns-in-None c is = ascends-push c.args.self.now.ascending.items c.args.name c.requires
    (λ k long. absurd (omega (arith, long, ap length c.deref.ensures.value, c.in-None.ensures.item.3)))
