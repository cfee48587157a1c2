use Rattle.std.proofs.Common.{◌∙◌}
use Rattle.sessions.proofs.Alone.{more_alone}
use Rattle.sessions.proofs.Left.{less_is_left, stands_at}
use Rattle.sessions.proofs.session.Session.advance.Goals as goal

pub loop-stop-smaller : goal.loop-stop-smaller
loop-stop-smaller c =
    less_is_left c.loop-stop.self c.do_next-in-Local.new.self c.loop-stop.stop c.in_ok-stop-2.stop c.in-Local.is c.in_ok-stop-2.ensures.script
    c.in_ok-stop-2.ensures.stops

pub loop-stop-preserved : goal.loop-stop-preserved
loop-stop-preserved c =
    let so_far = c.loop-stop.invariant in
    let step = c.in_ok-stop-2.ensures in
    record {
      script = step.script ∙ so_far.script;
      served = λ cell seen entries served same. step.served cell seen entries (so_far.served cell seen entries served same) same;
      alone = more_alone c.args.base c.args.bench.now c.args.self.now c.loop-stop.self c.do_next-in-Local.new.self so_far.alone step.alone;
      at = stands_at c.loop-stop.self c.do_next-in-Local.new.self c.in_ok-stop-2.stop step.stops;
    }

pub returns-in_err-stop-2-clause-alone : goal.returns-in_err-stop-2-clause-alone
returns-in_err-stop-2-clause-alone c =
    more_alone c.args.base c.args.bench.now c.args.self.now c.loop-stop.self c.do_next-in-Local.new.self c.loop-stop.invariant.alone
    c.in_err-stop-2.ensures.alone
