use Rattle.std.proofs.Common.{◌≡◌, take}
use Rattle.std.specs.List.{list_any}
use Rattle.pair_set.specs.Pairs.{is_among}
use Rattle.tile_index.specs.Tilings.{Tile, has_tile, tile_order}
use Rattle.tile_index.proofs.cover.tiles_listed.Given as goal

abbrev pub invariant-loop-range : goal.invariant-loop-range
invariant-loop-range l = (t : Tile) → is_among tile_order l.tiles.items t ≡ list_any (λ r. has_tile r t) (take l.range-index l.ranges)
