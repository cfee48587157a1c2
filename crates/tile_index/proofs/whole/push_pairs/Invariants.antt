use Rattle.std.proofs.Common.{◌≡◌, ◌&&◌, ◌||◌, is_eq, take}
use Rattle.s57_types.specs.declared.name.RecName.{RecName}
use Rattle.cell_spec.specs.Names.{name_order}
use Rattle.pair_set.specs.Pairs.{is_among}
use Rattle.tile_index.specs.Tilings.{Tile, is_paired, tile_order}
use Rattle.tile_index.proofs.whole.push_pairs.Given as goal

abbrev pub invariant-loop-tile : goal.invariant-loop-tile
invariant-loop-tile l = (t : Tile) (n : RecName) →
    is_paired l.pairs.items t n ≡ (is_paired l.fn.pairs.items t n || (is_eq (name_order l.name n) && is_among tile_order (take l.tile-index l.tile-items) t))
