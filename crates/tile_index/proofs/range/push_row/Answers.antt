use Rattle.std.proofs.Common.{◌≡◌, ◌&&◌, ◌||◌, ◌∙◌, arith, is_eq, to_z, w32}
use Rattle.std.specs.Prelude.{int_le, int_lt}
use Rattle.std.specs.Ordering.{int_cmp}
use Rattle.std.proofs.lemmas.Int.{ints, to_z-of_z}
use Rattle.std.proofs.lemmas.Result.{on_ok_weaker}
use Rattle.pair_set.specs.Pairs.{is_among}
use Rattle.tile_index.specs.Tilings.{Tile, tile_order}
use Rattle.tile_index.proofs.Counts.{last_column, next_column, no_column}
use Rattle.tile_index.proofs.range.push_row.Goals as goal

pub loop-column-init : goal.loop-column-init
loop-column-init c = let least = c.if-to-from.false in record { from = grind (arith, ints); to = grind (arith, ints); tiles = λ t. no_column _ t.1 _ _ }

pub loop-column-preserved : goal.loop-column-preserved
loop-column-preserved c = record {
  from = grind (arith, ints, c.if-to-from.false, c.loop-column-test.true, c.loop-column.invariant.from, c.loop-column.invariant.to);
  to = grind (arith, ints, c.if-to-from.false, c.loop-column-test.true, c.loop-column.invariant.from, c.loop-column.invariant.to);
  tiles = λ t. next_column _ t.1 _ _ _ _ _ _ c.loop-column.invariant.from (grind (arith, ints, c.loop-column-test.true, c.loop-column.invariant.to))
      (c.loop-column.invariant.tiles t) (c.in_ok-push_tile.ensures t);
}

pub returns : goal.returns
returns c =
    let all = λ (t : Tile). is_among tile_order c.args.tiles.now.items t in
    let before = λ (t : Tile). is_among tile_order c.loop-column.tiles.items t in
    let least = c.loop-column.invariant.from in
    let row = to_z-of_z w32 c.args.row c.ranges.row in
    let first = to_z-of_z w32 c.args.from c.ranges.from in
    let last : to_z w32 c.loop-column.column-bits ≡ c.args.to =
    grind (arith, ints, to_z-of_z, c.loop-column-test.false, c.loop-column.invariant.from, c.loop-column.invariant.to) in
    let end = to_z-of_z w32 c.args.to c.ranges.to in
    on_ok_weaker c.push_tile-2.result (λ is t.
    last_column c.args.from t.1 (is_eq (int_cmp t.0 c.args.row)) (all t) c.args.to (before t) _ (grind (arith, ints, to_z-of_z))
    (c.loop-column.invariant.tiles t ∙ (λ i. all t || (is_eq (int_cmp t.0 (row i)) && (int_le (first i) t.1 && int_lt t.1 (last i)))))
    (is t ∙ (λ i. before t || (is_eq (int_cmp t.0 (row i)) && is_eq (int_cmp t.1 (end i))))))
    c.push_tile-2.ensures
