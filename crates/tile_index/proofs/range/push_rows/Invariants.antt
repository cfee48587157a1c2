use Rattle.std.proofs.Common.{◌≡◌, ◌&&◌, ◌||◌}
use Rattle.std.specs.Prelude.{◌≤ℤ◌, int_le, int_lt}
use Rattle.pair_set.specs.Pairs.{is_among}
use Rattle.tile_index.specs.Tilings.{Tile, lies_within, tile_order}
use Rattle.tile_index.proofs.range.push_rows.Given as goal

abbrev pub invariant-loop-row : goal.invariant-loop-row
invariant-loop-row l = record {
  from : l.fn.south ≤ℤ l.row;
  to : l.row ≤ℤ l.fn.north;
  tiles : (t : Tile) → is_among tile_order l.tiles.items t
      ≡ (is_among tile_order l.fn.tiles.items t
      || ((int_le l.fn.south t.0 && int_lt t.0 l.row) && lies_within l.fn.west l.fn.east t.1));
}
