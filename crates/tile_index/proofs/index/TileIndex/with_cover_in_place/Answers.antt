use Rattle.std.proofs.Common.{◌≡◌, Some, subst, sym, ap, ◌∙◌, Ordering}
use Rattle.s57_types.specs.declared.name.RecName.{RecName}
use Rattle.cell_spec.specs.Names.{name_order}
use Rattle.row_spec.specs.Rows.{IsAscending, with_row}
use Rattle.tile_index.specs.Changes.{ranges_at, ranges_in}
use Rattle.tile_index.specs.Tilings.{IsTiling}
use Rattle.tile_index.proofs.InPlace.{keeps_ranges, keeps_tiles}
use Rattle.tile_index.proofs.index.TileIndex.with_cover_in_place.Goals as goal

pub invariant_of-result : goal.invariant_of-result
invariant_of-result c =
    let rows = c.self.inside.kept in
    let name = c.args.name in
    let put = subst (λ (order : RecName → RecName → Ordering). c.put.new.self ≡ with_row order rows name c.in_ok-make.field-0)
    (λ i a b. c.orders_are_by_parts.ensures.names a b i) c.in_ok-put.ensures.ok in
    subst (λ those. IsTiling those c.self.inside.in_tiles c.self.inside.oversized) (sym (put ∙ ap (with_row name_order rows name) c.in_ok-make.ensures))
    (keeps_tiles name c.args.cover rows c.self.inside.in_tiles c.self.inside.oversized c.self.invariant
    (subst (λ those. ranges_at those name ≡ Some c.args.cover.ranges) (sym c.self.view_is) c.requires))

pub returns-clause-ranges : goal.returns-clause-ranges
returns-clause-ranges c =
    let rows = c.self.inside.kept in
    let name = c.args.name in
    let both = subst (λ (order : RecName → RecName → Ordering). IsAscending order rows × (c.put.new.self ≡ with_row order rows name c.in_ok-make.field-0))
    (λ i a b. c.orders_are_by_parts.ensures.names a b i) (c.len-count.ensures.ascending, c.in_ok-put.ensures.ok) in
    ap ranges_in (both.1 ∙ ap (with_row name_order rows name) c.in_ok-make.ensures)
    ∙ keeps_ranges name c.args.cover rows both.0 (subst (λ those. ranges_at those name ≡ Some c.args.cover.ranges) (sym c.self.view_is) c.requires)
    ∙ ap ranges_in c.self.view_is
