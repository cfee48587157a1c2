use Rattle.std.proofs.Common.{◌≡◌, Some, subst, sym, ap, ◌∙◌, Ordering}
use Rattle.s57_types.specs.declared.name.RecName.{RecName}
use Rattle.cell_spec.specs.Ascending.{ascending}
use Rattle.cell_spec.specs.Names.{name_order}
use Rattle.row_spec.specs.Rows.{IsAscending, value_of}
use Rattle.finding_laws.specs.Tables.{Covering, mates_in}
use Rattle.tile_index.specs.Tilings.{is_near}
use Rattle.tile_index.proofs.Near.{mates_gathered}
use Rattle.tile_index.proofs.index.TileIndex.mates.Goals as goal

pub returns : goal.returns
returns c =
    let rows = c.self.inside.kept in
    let own : Covering = c.in-Some.own.now in
    let both = subst (λ (order : RecName → RecName → Ordering). IsAscending order rows × (Some own ≡ value_of order rows c.args.name))
    (λ i a b. c.orders_are_by_parts.ensures.names a b i) (c.len-count.ensures.ascending, c.in-Some.ensures) in
    let near = c.in_ok-near.near.items in
    c.ascending_names.ensures
    ∙ ap (ascending name_order) c.without.ensures
    ∙ mates_gathered rows both.0 c.args.name own near
    (λ q. c.in_ok-near.ensures q ∙ (λ i. is_near (sym c.self.view_is i) (c.deref.ensures i) q)) (sym both.1)
    ∙ ap (λ those. mates_in those c.args.name) c.self.view_is
