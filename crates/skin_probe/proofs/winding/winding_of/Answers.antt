use Rattle.std.proofs.Common.{rules, SFits, of_z, to_z, w64, arith}
use Rattle.std.proofs.lemmas.Int.{ints}
use Rattle.skin_probe.specs.Winding.{crossing_of}
use Rattle.skin_probe.proofs.Sums.{one_summed}
use Rattle.skin_probe.proofs.winding.winding_of.Goals as goal

pub loop-segment-preserved : goal.loop-segment-preserved
loop-segment-preserved c =
    let one : SFits w64 c.crossing_of.result = search rules in
    let next : SFits w64 c.in_ok-winding.winding = search rules in
    one_summed (crossing_of c.args.at) (to_z w64 c.loop-segment.winding-bits) (to_z w64 (of_z w64 c.in_ok-winding.winding)) _ c.args.segments.now
    c.loop-segment.segment-index _ c.crossing_of.result c.loop-segment-test.true c.crossing_of.ensures
    (omega (arith, ints, one, next, c.in_ok-winding.ensures)) c.loop-segment.invariant
