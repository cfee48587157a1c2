use Rattle.std.proofs.Common.{◌<◌, length, sym, ◌∙◌, arith}
use Rattle.picture_places.specs.Strokes.{target_strokes}
use Rattle.picture_places.proofs.Anchors.{behind, here}
use Rattle.picture_places.proofs.view.View.targets.Goals as goal

pub returns-then-is_some : goal.returns-then-is_some
returns-then-is_some g c =
    let within : c.loop-spot.spot-index < length c.args.spots.now = omega (arith, c.loop-spot-test.true) in
    here (target_strokes c.args.self.now.look.now c.args.self.now.around) c.args.spots.now c.loop-spot.spot-index _ c.in_ok-at.at within c.in_ok-at.ensures
    (sym c.is_some.ensures ∙ c.if-is_some.true) ∙ c.loop-spot.invariant

pub loop-spot-preserved : goal.loop-spot-preserved
loop-spot-preserved g c =
    let within : c.loop-spot.spot-index < length c.args.spots.now = omega (arith, c.loop-spot-test.true) in
    behind (target_strokes c.args.self.now.look.now c.args.self.now.around) c.args.spots.now c.loop-spot.spot-index _ c.in_ok-at.at within c.in_ok-at.ensures
    (sym c.is_some.ensures ∙ c.if-is_some.false) ∙ c.loop-spot.invariant
