use Rattle.std.proofs.Common.{map, ap, ◌∙◌}
use Rattle.std.proofs.lemmas.Result.{IfOk-weaker}
use Rattle.cell_spec.specs.Ascending.{ascending}
use Rattle.finding_laws.specs.Tables.{range_order}
use Rattle.tile_index.specs.Tilings.{range_with}
use Rattle.tile_index.proofs.Ranges.{ascending_mapped, exact_sides, sides_alike, sides_order}
use Rattle.tile_index.proofs.cover.ranges_under.Goals as goal

pub distinct-sides-requires : goal.distinct-sides-requires
distinct-sides-requires c = record { exact = λ a b e. exact_sides a b e }

pub returns : goal.returns
returns c =
    IfOk-weaker c.ranges_of.result _ _ (λ ranges is.
    is ∙ ap (map range_with) (c.deref.ensures.value ∙ c.distinct-sides.ensures)
    ∙ ascending_mapped range_with sides_order range_order sides_alike c.in_ok-sides_under.field-0.items
    ∙ ap (ascending range_order) c.in_ok-sides_under.ensures) c.ranges_of.ensures
