use Rattle.std.proofs.Common.{arith, ◌∙◌}
use Rattle.order_text.proofs.Judged.{refused_here, passed_here, named_here}
use Rattle.order_text.proofs.sessions.read_sessions.Goals as goal

pub returns-then-not-branch : goal.returns-then-not-branch
returns-then-not-branch c =
    let before = c.loop-k.invariant in
    refused_here c.args.quotas.now c.args.items.now c.loop-k.taken.order.items c.loop-k.k _ c.in_ok-take_item.field-0 (omega arith) before.0 before.3
    c.in_ok-take_item.ensures.bad c.if-not-branch.true

pub loop-k-preserved : goal.loop-k-preserved
loop-k-preserved c =
    let before = c.loop-k.invariant in
    let good = c.if-not-branch.false in (
      named_here c.args.quotas.now c.args.items.now c.loop-k.taken.order.items _ c.loop-k.k _ (omega arith) before.0 (c.in_ok-take_item.ensures.order good),
      c.in_ok-take_item.ensures.counts good,
      c.in_ok-take_item.ensures.length ∙ before.2,
      passed_here c.args.quotas.now c.args.items.now c.loop-k.taken.order.items c.loop-k.k _ c.in_ok-take_item.field-0
          (omega arith) before.0 before.3 c.in_ok-take_item.ensures.bad good,
    )
