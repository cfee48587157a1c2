use Rattle.std.proofs.Common.{◌<◌, length, arith, ◌∙◌, ap}
use Rattle.row_spec.specs.Rows.{value_of}
use Rattle.shared_table.proofs.Parts.{length-blocks, part_rows, value_in}
use Rattle.shared_table.proofs.layer.LayerPiece.get.Goals as goal

pub returns : goal.returns
returns g c =
    let found = rw (← c.self.view_is) at c.place_near-place.ensures in
    let lt : c.place_near-place.result < length c.self.inside.entries.items = omega (arith, found.in_range, length-blocks c.self.inside.entries.items) in
    let old = part_rows c.self.inside.entries.items c.place_near-place.result c.index.result.now lt c.index.ensures in
    rw (← c.self.view_is) (c.get.ensures ∙ ap (λ rows. value_of g.K.Ord.cmp rows c.args.key.now) c.piece.ensures
    ∙ value_in g.K.Ord.cmp c.self.inside.entries.items c.args.key.now c.place_near-place.result found c.index.result.now.0
    c.index.result.now.1 old)
