use Rattle.draw_top.proofs.Causes.{counts_of_put}
use Rattle.draw_top.proofs.drawing.draw.Goals as goal

pub returns-in-Err-clause-counted : goal.returns-in-Err-clause-counted
returns-in-Err-clause-counted g c = c.in-Err.ensures.counted (g.O.Sink.faults c.args.out.now)

pub returns-in-Ok-clause-counted : goal.returns-in-Ok-clause-counted
returns-in-Ok-clause-counted g c =
    counts_of_put _ _ _ _ _ c.put_picture.result c.in-Ok.ensures.kept c.put_picture.ensures.kept c.put_picture.ensures.fault c.put_picture.ensures.either
