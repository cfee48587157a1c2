use Rattle.std.proofs.Common.{ap, ◌∙◌}
use Rattle.tile_index.specs.Tilings.{is_paired}
use Rattle.tile_index.proofs.AtOnce.{tile_pushed}
use Rattle.tile_index.proofs.whole.push_pairs.Goals as goal

pub loop-tile-preserved : goal.loop-tile-preserved
loop-tile-preserved c = λ t n.
    ap (λ those. is_paired those t n) c.in_ok-push.ensures.items
    ∙ tile_pushed c.deref-tile-items.result.now c.loop-tile.tile-index _ c.loop-tile-test.true c.loop-tile.pairs.items c.args.name t n
    (is_paired c.args.pairs.now.items t n) (c.loop-tile.invariant t n)
