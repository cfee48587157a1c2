use Rattle.std.proofs.Common.{◌≡◌, ◌||◌}
use Rattle.s57_types.specs.declared.name.RecName.{RecName}
use Rattle.cell_spec.specs.Names.{name_order}
use Rattle.pair_set.specs.Pairs.{has_pair, is_among}
use Rattle.tile_index.specs.Tilings.{tile_order}
use Rattle.tile_index.proofs.mates.push_under.Given as goal

abbrev pub invariant-loop-name : goal.invariant-loop-name
invariant-loop-name l = (n : RecName) → (is_among name_order l.names.items n || is_among name_order l.name-iterator n)
    ≡ (is_among name_order l.fn.names.items n || has_pair tile_order name_order l.in_tiles l.fn.tile n)
