use Rattle.std.proofs.Common.{◌≡◌, cond, is_eq, is_some, subst, sym, ap, ◌∙◌, Ordering}
use Rattle.s57_types.specs.declared.name.RecName.{RecName}
use Rattle.cell_spec.specs.Names.{name_order}
use Rattle.row_spec.specs.Rows.{value_of, with_row}
use Rattle.pair_set.specs.Pairs.{has_pair, is_among}
use Rattle.tile_index.specs.Tilings.{IsTiling, Tile, tile_order}
use Rattle.tile_index.proofs.Tilings.{put_covering}
use Rattle.tile_index.proofs.index.TileIndex.with_cover.Goals as goal

pub replace-requires-clause-old : goal.replace-requires-clause-old
replace-requires-clause-old c = λ t.
    subst (λ (order : RecName → RecName → Ordering). has_pair tile_order order c.self.inside.in_tiles t c.args.name ≡ is_among tile_order c.deref.result.now t)
    (λ i a b. sym (c.orders_are_by_parts.ensures.names a b) i)
    (c.self.invariant.under t c.args.name ∙ sym (ap (λ tiles. is_among tile_order tiles t) c.deref.ensures.value ∙ c.in_ok-old.ensures t))

pub invariant_of-result : goal.invariant_of-result
invariant_of-result c =
    let rows = c.self.inside.kept in
    let name = c.args.name in
    let pairs = c.self.inside.in_tiles in
    let tiles = c.deref-2.result.now in
    let put = subst (λ (order : RecName → RecName → Ordering). c.put.new.self ≡ with_row order rows name c.in_ok-make.field-0)
    (λ i a b. c.orders_are_by_parts.ensures.names a b i) c.in_ok-put.ensures.ok in
    let replaced = subst (λ (order : RecName → RecName → Ordering). (t : Tile) (n : RecName) → has_pair tile_order order c.replace.new.self t n
    ≡ cond (is_eq (order name n)) (is_among tile_order tiles t) (has_pair tile_order order pairs t n))
    (λ i a b. c.orders_are_by_parts.ensures.names a b i) c.in_ok-replace.ensures.ok in
    subst (λ those. IsTiling those c.replace.new.self c.mark.new.oversized) (sym (put ∙ ap (with_row name_order rows name) c.in_ok-make.ensures))
    (put_covering rows pairs c.replace.new.self c.self.inside.oversized c.mark.new.oversized name c.self.invariant c.args.cover
    c.in_ok-tiles.ensures.ranges
    (λ t n. replaced t n
    ∙ ap (λ b. cond (is_eq (name_order name n)) b (has_pair tile_order name_order pairs t n))
    (ap (λ those. is_among tile_order those t) c.deref-2.ensures.value ∙ c.in_ok-tiles.ensures.tiles t))
    (λ n. c.in_ok-mark.ensures n
    ∙ ap (λ b. cond (is_eq (name_order name n)) b (is_some (value_of name_order c.self.inside.oversized n))) c.is_oversized.ensures))
