use Rattle.std.proofs.Common.{◌+◌, ℕ, List, Bor, true, false, Ok, Err, map, sym, ◌∙◌, ap, subst, rules}
use Rattle.std.proofs.lemmas.Result.{err_from_is_err_and}
use Rattle.text_spec.specs.OrderLine.{order_items}
use Rattle.order_text.specs.Counts.{AreCounts}
use Rattle.order_text.proofs.Whole.{order_of-none, order_of-refused, ended_at}
use Rattle.order_text.proofs.order.read_order.Goals as goal

pub returns-in_default : goal.returns-in_default
returns-in_default c = order_of-none c.args.quotas.now c.args.bytes.now c.in_default.ensures

pub returns-in_err-order : goal.returns-in_err-order
returns-in_err-order c =
    let refused = err_from_is_err_and c.from_residual-in_err-order.result c.from_residual-in_err-order.ensures.1 in
    rw (refused.1, refused.2)
    (order_of-refused c.args.quotas.now c.args.bytes.now (map (λ (item : Bor (List ℕ)). item.now) c.deref.result.now) c.in_err-order.field-0.0
    c.in-Some.ensures.0 (ap (map (λ (item : Bor (List ℕ)). item.now)) c.deref.ensures.value ∙ c.in_ok-items.ensures.items
    ∙ ap order_items c.in-Some.ensures.1) c.in_err-order.ensures)

pub returns-then-is_ended : goal.returns-then-is_ended
returns-then-is_ended c =
    ended_at c.args.quotas.now c.args.bytes.now c.in-Some.behind.now c.in_ok-order.order.items c.in_ok-order.used.items c.deref.result.now c.len.result true
    c.in-Some.ensures.0 c.in-Some.ensures.1 (ap (map (λ (item : Bor (List ℕ)). item.now)) c.deref.ensures.value ∙ c.in_ok-items.ensures.items)
    c.in_ok-order.ensures (search (rules, c.deref.ensures.value, c.len.ensures)) (c.if-is_ended.ensures c.in_ok-order.order.items
    (subst (AreCounts c.in_ok-order.order.items) (sym c.deref-2.ensures.value) c.in_ok-order.ensures.counts))
    ∙ ap Ok (sym c.of_vec.ensures)

pub returns : goal.returns
returns c =
    ended_at c.args.quotas.now c.args.bytes.now c.in-Some.behind.now c.in_ok-order.order.items c.in_ok-order.used.items c.deref.result.now c.len.result false
    c.in-Some.ensures.0 c.in-Some.ensures.1 (ap (map (λ (item : Bor (List ℕ)). item.now)) c.deref.ensures.value ∙ c.in_ok-items.ensures.items)
    c.in_ok-order.ensures (search (rules, c.deref.ensures.value, c.len.ensures)) (c.if-is_ended.ensures c.in_ok-order.order.items
    (subst (AreCounts c.in_ok-order.order.items) (sym c.deref-2.ensures.value) c.in_ok-order.ensures.counts))
    ∙ ap (λ n. Err (n + 1)) (c.len.ensures ∙ sym c.len-else-is_ended.ensures)
