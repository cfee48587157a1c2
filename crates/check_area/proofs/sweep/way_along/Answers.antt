use Rattle.std.proofs.Common.{◌∙◌}
use Rattle.check_area.proofs.Ways.{area_on, last_on}
use Rattle.check_area.proofs.sweep.way_along.Goals as goal

pub loop-point-preserved : goal.loop-point-preserved
loop-point-preserved c = record {
  comes_to = last_on c.loop-point.way.at _ c.args.rest.now c.loop-point.point-index _ c.loop-point-test.true c.in_ok-way.ensures.at
      ∙ c.loop-point.invariant.comes_to;
  summed =
      area_on c.loop-point.way.at _ _ _ c.args.rest.now c.loop-point.point-index _ c.loop-point-test.true c.in_ok-way.ensures.at c.in_ok-way.ensures.swept
      ∙ c.loop-point.invariant.summed;
}
