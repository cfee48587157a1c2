use Rattle.std.proofs.Common.{◌≡◌, true, take}
use Rattle.std.specs.List.{list_all}
use Rattle.s57_types.specs.declared.name.RecName.{RecName}
use Rattle.finding_laws.specs.Tables.{Covering}
use Rattle.tile_index.specs.Tilings.{Tile, has_some_tile, is_paired, is_row_under}
use Rattle.tile_index.proofs.whole.pairs_of.Given as goal

abbrev pub invariant-loop-row : goal.invariant-loop-row
invariant-loop-row l =
    (list_all (λ (row : RecName × Covering). list_all has_some_tile row.1.ranges) (take l.row-index l.rows) ≡ true)
    × ((t : Tile) (n : RecName) → is_paired l.pairs.items t n ≡ is_row_under (take l.row-index l.rows) t n)
