use Rattle.std.proofs.Common.{◌≡◌, ◌&&◌, ◌||◌, ◌∙◌, arith, is_eq, to_z, w32}
use Rattle.std.specs.Prelude.{int_le, int_lt}
use Rattle.std.specs.Ordering.{int_cmp}
use Rattle.std.proofs.lemmas.Int.{ints, to_z-of_z}
use Rattle.std.proofs.lemmas.Result.{on_ok_weaker}
use Rattle.pair_set.specs.Pairs.{is_among}
use Rattle.tile_index.specs.Tilings.{Tile, lies_within, tile_order}
use Rattle.tile_index.proofs.Counts.{last_row, next_row, no_row}
use Rattle.tile_index.proofs.range.push_rows.Goals as goal

pub loop-row-init : goal.loop-row-init
loop-row-init c = let least = c.if-north-south.false in record { from = grind (arith, ints); to = grind (arith, ints); tiles = λ t. no_row _ t.0 _ _ }

pub returns : goal.returns
returns c =
    let first = to_z-of_z w32 c.args.south c.ranges.south in
    let last : to_z w32 c.loop-row.row-bits ≡ c.args.north =
    grind (arith, ints, to_z-of_z, c.loop-row-test.false, c.loop-row.invariant.from, c.loop-row.invariant.to) in
    let end = to_z-of_z w32 c.args.north c.ranges.north in
    let least = c.loop-row.invariant.from in
    let west = to_z-of_z w32 c.args.west c.ranges.west in
    let east = to_z-of_z w32 c.args.east c.ranges.east in
    let all = λ (t : Tile). is_among tile_order c.args.tiles.now.items t in
    let before = λ (t : Tile). is_among tile_order c.loop-row.tiles.items t in
    on_ok_weaker c.push_row-2.result (λ is t.
    last_row c.args.south t.0 (lies_within c.args.west c.args.east t.1) (all t) c.args.north (before t) _ (grind (arith, ints, to_z-of_z))
    (c.loop-row.invariant.tiles t
    ∙ (λ i. all t || ((int_le (first i) t.0 && int_lt t.0 (last i)) && lies_within (west i) (east i) t.1)))
    (is t ∙ (λ i. before t || (is_eq (int_cmp t.0 (end i)) && lies_within (west i) (east i) t.1))))
    c.push_row-2.ensures

pub loop-row-preserved : goal.loop-row-preserved
loop-row-preserved c = record {
  tiles = λ t. next_row _ t.0 _ _ _ _ _ _ c.loop-row.invariant.from (grind (arith, ints, c.loop-row-test.true, c.loop-row.invariant.to))
      (c.loop-row.invariant.tiles t) (c.in_ok-push_row.ensures t);
  from = grind (arith, ints, c.if-north-south.false, c.loop-row-test.true, c.loop-row.invariant.from, c.loop-row.invariant.to);
  to = grind (arith, ints, c.if-north-south.false, c.loop-row-test.true, c.loop-row.invariant.from, c.loop-row.invariant.to);
}
