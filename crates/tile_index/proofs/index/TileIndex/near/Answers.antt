use Rattle.std.proofs.Common.{◌||◌, ◌++◌, is_eq, sym, ap, ◌∙◌}
use Rattle.std.specs.List.{list_any}
use Rattle.std.specs.Map.{keys_of}
use Rattle.std.proofs.lemmas.List.Folds.{list_any-append}
use Rattle.cell_spec.specs.Names.{name_order}
use Rattle.cell_spec.proofs.Orders.{total_names}
use Rattle.pair_set.specs.Pairs.{has_pair, is_among}
use Rattle.tile_index.specs.Tilings.{Tile, is_near, tile_order}
use Rattle.tile_index.proofs.Chosen.{among_keys}
use Rattle.tile_index.proofs.Near.{near_oversized, near_small}
use Rattle.tile_index.proofs.index.TileIndex.near.Goals as goal

pub returns-then-is_oversized : goal.returns-then-is_oversized
returns-then-is_oversized c = λ n.
    let rows = c.self.inside.kept in
    ap (λ names. is_among name_order names n) (c.in_ok-push_names.ensures ∙ ap (λ names. names ++ keys_of rows) c.new-names.ensures.items)
    ∙ near_oversized rows c.args.own.now n (sym c.is_oversized.ensures ∙ c.if-is_oversized.true)
    ∙ ap (λ those. is_near those c.args.own.now n) c.self.view_is

pub returns : goal.returns
returns c = λ n.
    let rows = c.self.inside.kept in
    let own = c.args.own.now in
    let tiles = c.in_ok-tiles.field-0.items in
    ap (λ names. is_among name_order names n) c.in_ok-push_names-2.ensures
    ∙ list_any-append (λ m. is_eq (name_order n m)) c.in_ok-names.names.items (keys_of c.self.inside.oversized)
    ∙ (λ i. (c.in_ok-names.ensures n ∙ ap (list_any (λ (t : Tile). has_pair tile_order name_order c.self.inside.in_tiles t n)) c.deref.ensures.value) i
    || among_keys name_order total_names c.self.inside.oversized n i)
    ∙ near_small own (sym c.is_oversized.ensures ∙ c.if-is_oversized.false) c.in_ok-tiles.ensures.ranges tiles c.in_ok-tiles.ensures.tiles
    rows c.self.inside.in_tiles c.self.inside.oversized c.self.invariant n
    ∙ ap (λ those. is_near those own n) c.self.view_is
