use Rattle.std.proofs.Common.{rules, SFits, of_z, to_z, w64, arith}
use Rattle.std.proofs.lemmas.Int.{ints}
use Rattle.skin_probe.specs.Winding.{pointer_winding}
use Rattle.skin_probe.proofs.Sums.{one_summed}
use Rattle.skin_probe.proofs.winding.Probe.pointers.Goals as goal

pub loop-spot-preserved : goal.loop-spot-preserved
loop-spot-preserved g c =
    let one : SFits w64 c.in_ok-more.more = search rules in
    let next : SFits w64 c.in_ok-winding.winding = search rules in (
      one_summed (pointer_winding (g.B.Look.cell c.args.self.now.look.now) c.args.self.now.at) (to_z w64 c.loop-spot.winding-bits)
          (to_z w64 (of_z w64 c.in_ok-winding.winding)) _ c.args.spots.now c.loop-spot.spot-index _ c.in_ok-more.more c.loop-spot-test.true
          c.in_ok-more.ensures.winding
          (omega (arith, ints, one, next, c.in_ok-winding.ensures)) c.loop-spot.invariant.0,
      c.in_ok-more.ensures.known,
    )
