use Rattle.std.proofs.Common.{◌∙◌}
use Rattle.check_area.proofs.Ways.{home_on}
use Rattle.check_area.proofs.part.turn_of.Goals as goal

pub loop-part-preserved : goal.loop-part-preserved
loop-part-preserved c =
    home_on _ _ _ _ _ c.args.parts.now c.loop-part.part-index _ c.loop-part-test.true c.in_ok-way.ensures.at c.in_ok-way.ensures.swept
    ∙ c.loop-part.invariant
