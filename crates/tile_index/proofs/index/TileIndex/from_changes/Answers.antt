use Rattle.std.proofs.Common.{◌≡◌, Equal, Ordering, List, subst, sym, true, ap, ◌∙◌}
use Rattle.std.specs.Cmp.{IsTotalOrder}
use Rattle.std.specs.List.{list_all}
use Rattle.std.specs.Ordering.{ordering_then}
use Rattle.std.proofs.lemmas.Map.Lookups.{CmpEqualImpliesEq, exact_pairs}
use Rattle.s57_types.specs.declared.name.RecName.{RecName}
use Rattle.cell_spec.specs.Ascending.{ascending}
use Rattle.cell_spec.specs.Names.{name_order}
use Rattle.cell_spec.proofs.Ascending.{any-ascending, sorted-ascending}
use Rattle.cell_spec.proofs.Orders.{exact_names, total_names}
use Rattle.row_spec.specs.Rows.{IsAscending}
use Rattle.row_spec.proofs.Pairs.{exact_rows, has-rows, row_order, rows_ascend, total_pairs, total_rows}
use Rattle.finding_laws.specs.Tables.{Covering}
use Rattle.pair_set.specs.Pairs.{has_pair, pair_order, same_pair}
use Rattle.tile_index.specs.Changes.{oversized_in}
use Rattle.tile_index.specs.Tilings.{IsTiling, Tile, has_some_tile, is_row_under, tile_order}
use Rattle.tile_index.proofs.AtOnce.{all_tiled, changes_put, given_ascend, oversized_ascend}
use Rattle.tile_index.proofs.Meeting.{exact_tiles, total_tiles}
use Rattle.tile_index.proofs.index.TileIndex.from_changes.Goals as goal

abbrev PairRow : Type 0
PairRow = (Tile × RecName) × Unit {0}

-- the order of pairs, and of rows that are a pair alone
abbrev tile_pairs : Tile × RecName → Tile × RecName → Ordering
tile_pairs = pair_order tile_order name_order

abbrev pair_rows : PairRow → PairRow → Ordering
pair_rows = row_order tile_pairs

total : IsTotalOrder pair_rows
total = total_rows tile_pairs (total_pairs tile_order name_order total_tiles total_names)

exact : CmpEqualImpliesEq pair_rows
exact = exact_rows tile_pairs (exact_pairs tile_order name_order exact_tiles exact_names)

pub distinct-requires : goal.distinct-requires
distinct-requires c = record {
  exact = subst (λ (order : RecName → RecName → Ordering). (a b : PairRow)
      → ordering_then (ordering_then (tile_order a.0.0 b.0.0) (order a.0.1 b.0.1)) Equal ≡ Equal → a ≡ b)
      (λ i a b. sym (c.orders_are_by_parts.ensures.names a b) i) exact;
}

pub from_ascending-requires : goal.from_ascending-requires
from_ascending-requires c =
    let those = subst (λ (order : RecName → RecName → Ordering). c.distinct.result.items
    ≡ ascending (λ (a b : PairRow). ordering_then (ordering_then (tile_order a.0.0 b.0.0) (order a.0.1 b.0.1)) Equal) c.in_ok-pairs_of.field-0.items)
    (λ i a b. c.orders_are_by_parts.ensures.names a b i) c.distinct.ensures in
    let rises = subst (IsAscending tile_pairs) (sym those) (rows_ascend tile_pairs (ascending pair_rows c.in_ok-pairs_of.field-0.items)
    (sorted-ascending pair_rows total c.in_ok-pairs_of.field-0.items)) in
    subst (λ (order : RecName → RecName → Ordering). IsAscending (pair_order tile_order order) c.distinct.result.items)
    (λ i a b. sym (c.orders_are_by_parts.ensures.names a b) i) rises

pub from_ascending-requires-2 : goal.from_ascending-requires-2
from_ascending-requires-2 c =
    let rows = c.deref-2.ensures.value ∙ c.in_ok-rows.ensures in
    subst (λ (order : RecName → RecName → Ordering). IsAscending order c.in_ok-oversized_of.field-0.items)
    (λ i a b. sym (c.orders_are_by_parts.ensures.names a b) i)
    (subst (IsAscending name_order) (sym (c.in_ok-oversized_of.ensures ∙ ap oversized_in rows))
    (oversized_ascend _ (given_ascend c.args.changes.items c.requires)))

pub from_ascending-requires-3 : goal.from_ascending-requires-3
from_ascending-requires-3 c =
    subst (λ (order : RecName → RecName → Ordering). IsAscending order c.in_ok-rows.rows.items)
    (λ i a b. sym (c.orders_are_by_parts.ensures.names a b) i)
    (subst (IsAscending name_order) (sym c.in_ok-rows.ensures) (given_ascend c.args.changes.items c.requires))

pub invariant_of-result : goal.invariant_of-result
invariant_of-result c =
    let rows = c.in_ok-rows.rows.items in
    let pairs = c.in_ok-pairs_of.field-0.items in
    let those = subst (λ (order : RecName → RecName → Ordering). c.distinct.result.items
    ≡ ascending (λ (a b : PairRow). ordering_then (ordering_then (tile_order a.0.0 b.0.0) (order a.0.1 b.0.1)) Equal) pairs)
    (λ i a b. c.orders_are_by_parts.ensures.names a b i) c.distinct.ensures in
    let sorted = subst (IsAscending name_order) (sym c.in_ok-rows.ensures) (given_ascend c.args.changes.items c.requires) in
    let ranged = subst (λ (rs : List (RecName × Covering)). list_all (λ (row : RecName × Covering). list_all has_some_tile row.1.ranges) rs ≡ true)
    c.deref.ensures.value c.in_ok-pairs_of.ensures.ranges in
    let paired = λ (t : Tile) (n : RecName).
    ap (λ set. has_pair tile_order name_order set t n) (c.in_ok-in_tiles.ensures ∙ those)
    ∙ has-rows tile_order name_order (ascending pair_rows pairs) t n
    ∙ any-ascending pair_rows exact (λ (pair : PairRow). same_pair tile_order name_order pair.0.0 pair.0.1 t n) pairs
    ∙ c.in_ok-pairs_of.ensures.pairs t n
    ∙ ap (λ (rs : List (RecName × Covering)). is_row_under rs t n) c.deref.ensures.value in
    subst (λ kept. IsTiling kept c.in_ok-in_tiles.in_tiles c.in_ok-oversized.oversized) (sym c.in_ok-kept.ensures)
    (subst (IsTiling rows c.in_ok-in_tiles.in_tiles) (sym (c.in_ok-oversized.ensures ∙ c.in_ok-oversized_of.ensures ∙ ap oversized_in c.deref-2.ensures.value))
    (all_tiled rows c.in_ok-in_tiles.in_tiles sorted ranged paired))

pub returns : goal.returns
returns c = c.in_ok-kept.ensures ∙ c.in_ok-rows.ensures ∙ changes_put c.args.changes.items c.requires
