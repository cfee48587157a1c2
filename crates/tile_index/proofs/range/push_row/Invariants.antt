use Rattle.std.proofs.Common.{◌≡◌, ◌&&◌, ◌||◌, is_eq}
use Rattle.std.specs.Prelude.{◌≤ℤ◌, int_le, int_lt}
use Rattle.std.specs.Ordering.{int_cmp}
use Rattle.pair_set.specs.Pairs.{is_among}
use Rattle.tile_index.specs.Tilings.{Tile, tile_order}
use Rattle.tile_index.proofs.range.push_row.Given as goal

abbrev pub invariant-loop-column : goal.invariant-loop-column
invariant-loop-column l = record {
  from : l.fn.from ≤ℤ l.column;
  to : l.column ≤ℤ l.fn.to;
  tiles : (t : Tile) → is_among tile_order l.tiles.items t
      ≡ (is_among tile_order l.fn.tiles.items t || (is_eq (int_cmp t.0 l.row) && (int_le l.fn.from t.1 && int_lt t.1 l.column)));
}
