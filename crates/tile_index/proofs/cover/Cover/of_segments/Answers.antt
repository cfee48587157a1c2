use Rattle.std.proofs.Common.{◌≡◌, true, subst, sym}
use Rattle.std.specs.List.{list_all}
use Rattle.tile_index.specs.Tilings.{has_some_tile}
use Rattle.tile_index.proofs.Ranges.{all_have_tiles}
use Rattle.tile_index.proofs.cover.Cover.of_segments.Goals as goal

pub invariant_of-result : goal.invariant_of-result
invariant_of-result c =
    subst (λ ranges. list_all has_some_tile ranges ≡ true) (sym c.in_ok-ranges_under.ensures) (all_have_tiles c.tiles_are_floors.ensures c.args.segments.now)
