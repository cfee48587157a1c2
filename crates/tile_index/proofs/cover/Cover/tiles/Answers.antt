use Rattle.std.proofs.Common.{[], ◌&&◌, not, subst, sym, ap, ◌∙◌}
use Rattle.std.specs.List.{list_any}
use Rattle.std.specs.List.Sorted.{IsStrictlySortedBy}
use Rattle.cell_spec.proofs.Ascending.{holds-ascending, sorted-ascending}
use Rattle.pair_set.specs.Pairs.{is_among}
use Rattle.tile_index.specs.Tilings.{has_tile, tile_order}
use Rattle.tile_index.proofs.Meeting.{exact_tiles, total_tiles}
use Rattle.tile_index.proofs.cover.Cover.tiles.Goals as goal

pub distinct-requires : goal.distinct-requires
distinct-requires c = record { exact = λ a b e. exact_tiles a b e }

pub returns-then-is_oversized-clause-sorted : goal.returns-then-is_oversized-clause-sorted
returns-then-is_oversized-clause-sorted c = subst (IsStrictlySortedBy tile_order) (sym c.new.ensures.items) (sorted-ascending tile_order total_tiles [])

pub returns-clause-sorted : goal.returns-clause-sorted
returns-clause-sorted c =
    subst (IsStrictlySortedBy tile_order) (sym c.distinct.ensures) (sorted-ascending tile_order total_tiles c.in_ok-tiles_listed.field-0.items)

pub returns-clause-tiles : goal.returns-clause-tiles
returns-clause-tiles c = λ t.
    ap (λ tiles. is_among tile_order tiles t) c.distinct.ensures
    ∙ holds-ascending tile_order exact_tiles t c.in_ok-tiles_listed.field-0.items
    ∙ c.in_ok-tiles_listed.ensures t
    ∙ ap (list_any (λ r. has_tile r t)) c.ranges-ranges.ensures.ranges
    ∙ sym (ap (λ over. not over && list_any (λ r. has_tile r t) c.args.self.now.ranges) (sym c.is_oversized.ensures ∙ c.if-is_oversized.false))
