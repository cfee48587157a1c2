use Rattle.std.proofs.Common.{◌<◌, length, arith, sym, ◌∙◌}
use Rattle.order_text.proofs.Judged.{has_used-not, has_used-so, rest_used-here, rest_used-next}
use Rattle.order_text.proofs.sessions.are_all_used.Goals as goal

pub returns-then-used-k : goal.returns-then-used-k
returns-then-used-k c = λ order counts.
    let below : c.loop-k.k < length c.args.quotas.now = omega arith in
    let within : c.loop-k.k < length c.args.used.now = omega arith in
    sym (rest_used-here c.args.quotas.now order c.loop-k.k below
    (has_used-not c.args.quotas.now order c.args.used.now c.loop-k.k counts within c.if-used-k.true))
    ∙ c.loop-k.invariant order counts

pub loop-k-preserved : goal.loop-k-preserved
loop-k-preserved c = λ order counts.
    let below : c.loop-k.k < length c.args.quotas.now = omega arith in
    let within : c.loop-k.k < length c.args.used.now = omega arith in
    sym (rest_used-next c.args.quotas.now order c.loop-k.k below
    (has_used-so c.args.quotas.now order c.args.used.now c.loop-k.k counts within (omega (arith, c.if-used-k.false))))
    ∙ c.loop-k.invariant order counts
