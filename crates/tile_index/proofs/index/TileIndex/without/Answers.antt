use Rattle.std.proofs.Common.{◌≡◌, [], cond, false, is_eq, subst, sym, ap, ◌∙◌, Ordering}
use Rattle.s57_types.specs.declared.name.RecName.{RecName}
use Rattle.cell_spec.proofs.Ascending.{sorted-ascending}
use Rattle.row_spec.specs.Rows.{IsAscending, without_key}
use Rattle.pair_set.specs.Pairs.{has_pair, is_among}
use Rattle.tile_index.specs.Tilings.{IsTiling, Tile, tile_order}
use Rattle.tile_index.proofs.Meeting.{total_tiles}
use Rattle.tile_index.proofs.Tilings.{took_covering}
use Rattle.tile_index.proofs.index.TileIndex.without.Goals as goal

pub replace-requires-clause-new : goal.replace-requires-clause-new
replace-requires-clause-new c = sorted-ascending tile_order total_tiles []

pub invariant_of-result : goal.invariant_of-result
invariant_of-result c =
    let rows = c.self.inside.kept in
    let name = c.args.name in
    let pairs = c.self.inside.in_tiles in
    let both = subst (λ (order : RecName → RecName → Ordering). IsAscending order rows × (c.take.new.self ≡ without_key order rows name))
    (λ i a b. c.orders_are_by_parts.ensures.names a b i) (c.len-count.ensures.ascending, c.in_ok-take.ensures.ok) in
    let replaced = subst (λ (order : RecName → RecName → Ordering). (t : Tile) (n : RecName) → has_pair tile_order order c.replace.new.self t n
    ≡ cond (is_eq (order name n)) false (has_pair tile_order order pairs t n))
    (λ i a b. c.orders_are_by_parts.ensures.names a b i) c.in_ok-replace.ensures.ok in
    subst (λ those. IsTiling those c.replace.new.self c.mark.new.oversized) (sym both.1)
    (took_covering rows pairs c.replace.new.self c.self.inside.oversized c.mark.new.oversized name c.self.invariant both.0 replaced
    (λ n. c.in_ok-mark.ensures n))

pub replace-requires-clause-old : goal.replace-requires-clause-old
replace-requires-clause-old c = λ t.
    subst (λ (order : RecName → RecName → Ordering). has_pair tile_order order c.self.inside.in_tiles t c.args.name ≡ is_among tile_order c.deref.result.now t)
    (λ i a b. sym (c.orders_are_by_parts.ensures.names a b) i)
    (c.self.invariant.under t c.args.name ∙ sym (ap (λ tiles. is_among tile_order tiles t) c.deref.ensures.value ∙ c.in_ok-old.ensures t))
