use Rattle.std.proofs.Common.{◌≡◌, take}
use Rattle.std.specs.List.{list_any}
use Rattle.s57_types.specs.declared.name.RecName.{RecName}
use Rattle.cell_spec.specs.Names.{name_order}
use Rattle.pair_set.specs.Pairs.{has_pair, is_among}
use Rattle.tile_index.specs.Tilings.{Tile, tile_order}
use Rattle.tile_index.proofs.mates.names_under.Given as goal

abbrev pub invariant-loop-tile : goal.invariant-loop-tile
invariant-loop-tile l = (n : RecName) → is_among name_order l.names.items n
    ≡ list_any (λ (t : Tile). has_pair tile_order name_order l.in_tiles t n) (take l.tile-index l.tiles)
