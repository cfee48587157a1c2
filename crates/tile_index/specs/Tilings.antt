-- The tiles under coverings. This project's own rules.
use Rattle.std.specs.Prelude.{◌≡◌, ◌&&◌, Bool, true, false, not, ℤ, List, int_le}
use Rattle.std.specs.List.{list_all, list_any}
use Rattle.std.specs.Option.{is_some, option_map_or}
use Rattle.std.specs.declared.cmp.Ordering.{Ordering}
use Rattle.std.specs.Ordering.{int_cmp, is_eq, ordering_then}
use Rattle.s57_types.specs.declared.name.RecName.{RecName}
use Rattle.cell_spec.specs.Names.{name_order}
use Rattle.geometry_spec.specs.declared.tile.TileRange.{TileRange}
use Rattle.row_spec.specs.Rows.{value_of}
use Rattle.pair_set.specs.Pairs.{has_pair, same_pair}
use Rattle.finding_laws.specs.Tables.{Covering, do_ranges_meet, is_oversized_range}

-- a tile by its row and its column
abbrev pub Tile : Type 0
Tile = ℤ × ℤ

-- by row, then by column
abbrev pub tile_order : Tile → Tile → Ordering
tile_order a b = ordering_then (int_cmp a.0 b.0) (int_cmp a.1 b.1)

-- a range with these sides: south, north, west, east
abbrev pub range_with : ℤ × ℤ × ℤ × ℤ → TileRange
range_with sides = record { row_from = sides.0; row_to = sides.1; col_from = sides.2; col_to = sides.3 }

-- whether a number lies from one to another, both included
abbrev pub lies_within : ℤ → ℤ → ℤ → Bool
lies_within low high z = int_le low z && int_le z high

-- whether a tile is one of a range
abbrev pub has_tile : TileRange → Tile → Bool
has_tile r t = lies_within r.row_from r.row_to t.0 && lies_within r.col_from r.col_to t.1

-- whether a range has a tile
abbrev pub has_some_tile : TileRange → Bool
has_some_tile r = int_le r.row_from r.row_to && int_le r.col_from r.col_to

-- whether one of a covering's ranges is oversized
abbrev pub is_oversized : Covering → Bool
is_oversized covering = list_any is_oversized_range covering.ranges

-- whether a covering that isn't oversized has a tile
abbrev pub covers : Covering → Tile → Bool
covers covering t = not (is_oversized covering) && list_any (λ r. has_tile r t) covering.ranges

-- whether each range of a name's covering has a tile
abbrev pub has_ranges : List (RecName × Covering) → RecName → Bool
has_ranges rows n = option_map_or (λ (covering : Covering). list_all has_some_tile covering.ranges) (value_of name_order rows n) true

-- whether a tile and a name stand together among pairs
abbrev pub is_paired : {V : Type 0} → List ((Tile × RecName) × V) → Tile → RecName → Bool
is_paired {V} pairs t n = list_any (λ (pair : (Tile × RecName) × V). same_pair tile_order name_order pair.0.0 pair.0.1 t n) pairs

-- whether a row of a name has a covering of a tile
abbrev pub is_row_under : List (RecName × Covering) → Tile → RecName → Bool
is_row_under rows t n = list_any (λ (row : RecName × Covering). is_eq (name_order row.0 n) && covers row.1 t) rows

-- whether a name is under a tile
abbrev pub is_under : List (RecName × Covering) → Tile → RecName → Bool
is_under rows t n = option_map_or (λ covering. covers covering t) (value_of name_order rows n) false

-- whether a name is oversized
abbrev pub is_name_oversized : List (RecName × Covering) → RecName → Bool
is_name_oversized rows n = option_map_or is_oversized (value_of name_order rows n) false

-- whether a name has a covering whose ranges meet those of a covering
abbrev pub is_near : List (RecName × Covering) → Covering → RecName → Bool
is_near rows own n = option_map_or (λ (other : Covering). do_ranges_meet own.ranges other.ranges) (value_of name_order rows n) false

-- each tile stands with the names under it, and the oversized ones stand apart
pub record IsTiling {V W : Type 0} (rows : List (RecName × Covering)) (pairs : List ((Tile × RecName) × V)) (oversized : List (RecName × W)) : Type 0 where
  pub ranges : (n : RecName) → has_ranges rows n ≡ true
  pub under : (t : Tile) (n : RecName) → has_pair tile_order name_order pairs t n ≡ is_under rows t n
  pub apart : (n : RecName) → is_some (value_of name_order oversized n) ≡ is_name_oversized rows n
