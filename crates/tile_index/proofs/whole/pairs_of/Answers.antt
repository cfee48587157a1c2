use Rattle.std.proofs.Common.{◌≡◌, ◌&&◌, ◌||◌, is_eq, subst, true, ap, ◌∙◌}
use Rattle.std.specs.List.{list_all}
use Rattle.s57_types.specs.declared.name.RecName.{RecName}
use Rattle.cell_spec.specs.Names.{name_order}
use Rattle.finding_laws.specs.Tables.{Covering}
use Rattle.tile_index.specs.Tilings.{covers, has_some_tile, is_paired}
use Rattle.tile_index.proofs.AtOnce.{row_pushed, row_ranged}
use Rattle.tile_index.proofs.whole.pairs_of.Goals as goal

pub loop-row-preserved : goal.loop-row-preserved
loop-row-preserved c =
    let rows = c.args.rows.now in
    let i = c.loop-row.row-index in
    let row : RecName × Covering = (c.row-item.result.0, c.row-item.result.1) in (
      row_ranged rows i row c.loop-row-test.true c.loop-row.invariant.0 (subst (λ (r : RecName × Covering). list_all has_some_tile r.1.ranges ≡ true)
          c.row-item.is (subst (λ (covering : Covering). list_all has_some_tile covering.ranges ≡ true) c.deref.ensures c.in_ok-push_pairs.ensures.ranges)),
      λ t n.
          c.in_ok-push_pairs.ensures.pairs t n
          ∙ ap (λ (covering : Covering). is_paired c.loop-row.pairs.items t n || (is_eq (name_order row.0 n) && covers covering t)) c.deref.ensures
          ∙ ap (λ (r : RecName × Covering). is_paired c.loop-row.pairs.items t n || (is_eq (name_order r.0 n) && covers r.1 t)) c.row-item.is
          ∙ row_pushed rows i row c.loop-row-test.true t n (is_paired c.loop-row.pairs.items t n) (c.loop-row.invariant.1 t n),
    )
