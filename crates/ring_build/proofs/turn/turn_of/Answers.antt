use Rattle.std.proofs.Common.{pos, get_or, arith}
use Rattle.std.proofs.lemmas.Int.{ints}
use Rattle.geometry_spec.specs.Points.{Point}
use Rattle.ring_build.proofs.TurnSteps.{from_first, along_more}
use Rattle.ring_build.proofs.turn.turn_of.Goals as goal

-- what an access past the end would give
abbrev none : Point
none = (pos 0, pos 0)

pub loop-point-init : goal.loop-point-init
loop-point-init c = record { summed = omega (arith, ints, from_first c.as_slice-points.result.now none c.in-len1-up.len_at_least); small = omega arith }

pub loop-point-preserved : goal.loop-point-preserved
loop-point-preserved c =
    let points = c.as_slice-points.result.now in
    let on = along_more points c.loop-point.point-index c.loop-point.before (get_or points 0 none) none c.loop-point-test.true in
    record { summed = omega (arith, ints, on); small = omega (arith, ints) }
