use Rattle.std.proofs.Common.{◌<◌, ◌+◌, length, arith, ◌∙◌, ap, ap₂, sym, is_lt}
use Rattle.std.proofs.lemmas.List.Sums.{prefix_len-le-length}
use Rattle.row_spec.specs.Rows.{lower_bound}
use Rattle.row_spec.proofs.Whole.{lower_bound-block}
use Rattle.shared_table.specs.Pieces.{blocks_of, rows_of}
use Rattle.shared_table.proofs.Parts.{length-blocks, part_rows}
use Rattle.shared_table.proofs.layer.LayerPiece.place_of.Goals as goal

pub overflow_add-result : goal.overflow_add-result
overflow_add-result g c =
    let found = rw (← c.self.view_is) at c.place_for-place.ensures in
    let lt : c.place_for-place.result < length c.self.inside.entries.items = omega (arith, found.in_range, length-blocks c.self.inside.entries.items) in
    let old = part_rows c.self.inside.entries.items c.place_for-place.result c.index.result.now lt c.index.ensures in
    let own = c.place_of.ensures ∙ ap (λ rows. lower_bound g.K.Ord.cmp rows c.args.key.now) (c.piece.ensures ∙ old) in
    let before = rw (← c.self.view_is) at c.rows_before.ensures in
    let all = lower_bound-block g.K.Ord.cmp (blocks_of c.self.inside.entries.items) c.args.key.now c.place_for-place.result found in
    let most = prefix_len-le-length (λ row. is_lt (g.K.Ord.cmp row.0 c.args.key.now)) (rows_of c.self.inside.entries.items) in
    omega (arith, before, own, all, most, rw (← c.self.view_is) at c.len-total.ensures.len)

pub returns : goal.returns
returns g c =
    let found = rw (← c.self.view_is) at c.place_for-place.ensures in
    let lt : c.place_for-place.result < length c.self.inside.entries.items = omega (arith, found.in_range, length-blocks c.self.inside.entries.items) in
    let old = part_rows c.self.inside.entries.items c.place_for-place.result c.index.result.now lt c.index.ensures in
    let own = c.place_of.ensures ∙ ap (λ rows. lower_bound g.K.Ord.cmp rows c.args.key.now) (c.piece.ensures ∙ old) in
    let before = rw (← c.self.view_is) at c.rows_before.ensures in
    rw (← c.self.view_is) (ap₂ (λ m n. m + n) before own ∙ sym
    (lower_bound-block g.K.Ord.cmp (blocks_of c.self.inside.entries.items) c.args.key.now c.place_for-place.result found))
