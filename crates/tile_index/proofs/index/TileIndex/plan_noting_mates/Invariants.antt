use Rattle.std.proofs.Common.{◌≡◌, take, true}
use Rattle.tile_index.specs.Changes.{after_changes, ranges_in}
use Rattle.tile_index.proofs.index.TileIndex.plan_noting_mates.Given as goal

abbrev pub invariant-loop-change : goal.invariant-loop-change
invariant-loop-change l =
    (l.index ≡ after_changes l.self (take l.change-index l.changes)) × (l.keeps_mates ≡ true → ranges_in l.index ≡ ranges_in l.self)
