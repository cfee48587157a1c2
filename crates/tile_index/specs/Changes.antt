-- What changes leave of the coverings that are kept. This project's own rules.
use Rattle.std.specs.Prelude.{◌≡◌, List, [], Option, None, Some, filter, flat_map, fold, length, map, nat_lt, option_and_then, option_map}
use Rattle.std.specs.Prelude.{option_to_list, if◌then◌else◌}
use Rattle.std.specs.Option.{option_map_or}
use Rattle.s57_types.specs.declared.name.Kind.TheVariants.{Vc}
use Rattle.s57_types.specs.declared.name.RecName.{RecName}
use Rattle.cell_spec.specs.Names.{is_of_kind, name_order, same_name}
use Rattle.geometry_spec.specs.Points.{Point}
use Rattle.geometry_spec.specs.declared.tile.TileRange.{TileRange}
use Rattle.rule_spec.specs.EdgePoints.{Segment, segments_of}
use Rattle.rule_spec.specs.Records.{is_edge_name, the_only}
use Rattle.row_spec.specs.Rows.{IsAscending, value_of, with_row, without_key}
use Rattle.finding_laws.specs.Tables.{Covering, covering_of}
use Rattle.tile_index.specs.Tilings.{is_oversized}
use Rattle.tile_index.specs.declared.change.TileChange.{TileChange}

-- the segments of a name with points: of a connected node with one point from it to it, of an edge those between neighbouring points; others have none
abbrev pub segments_with : RecName → List Point → List Segment
segments_with n points =
    if is_of_kind Vc n then map (λ p. (p, p)) (option_to_list (the_only points)) else (if is_edge_name n then segments_of points else [])

-- the covering of segments, if there are any
abbrev pub covering_if_any : List Segment → Option Covering
covering_if_any ss = if nat_lt 0 (length ss) then Some (covering_of ss) else None

-- the covering that a change gives its name
abbrev pub covering_given : TileChange → Option Covering
covering_given change = option_and_then (λ points. covering_if_any (segments_with change.name points)) change.points

-- the rows after a change: a name without a covering goes
abbrev pub after_change : List (RecName × Covering) → TileChange → List (RecName × Covering)
after_change rows change =
    option_map_or (λ covering. with_row name_order rows change.name covering) (covering_given change) (without_key name_order rows change.name)

-- the rows after changes, one after the other
abbrev pub after_changes : List (RecName × Covering) → List TileChange → List (RecName × Covering)
after_changes rows changes = fold after_change rows changes

-- the coverings that changes give, with their names
abbrev pub coverings_given : List TileChange → List (RecName × Covering)
coverings_given changes = flat_map (λ change. map (λ covering. (change.name, covering)) (option_to_list (covering_given change))) changes

-- the names of oversized coverings
abbrev pub oversized_in : List (RecName × Covering) → List (RecName × Unit {0})
oversized_in rows = map (λ (row : RecName × Covering). (row.0, tt)) (filter (λ (row : RecName × Covering). is_oversized row.1) rows)

-- the names and their ranges
abbrev pub ranges_in : List (RecName × Covering) → List (RecName × List TileRange)
ranges_in rows = map (λ (row : RecName × Covering). (row.0, row.1.ranges)) rows

-- the ranges that a name has
abbrev pub ranges_at : List (RecName × Covering) → RecName → Option (List TileRange)
ranges_at rows n = option_map (λ (covering : Covering). covering.ranges) (value_of name_order rows n)

-- what a name has after changes: the covering that the last change of it gives, and what it had where none is of it
abbrev pub covering_after : Option Covering → List TileChange → RecName → Option Covering
covering_after had changes n = fold (λ has change. if same_name change.name n then covering_given change else has) had changes

-- rows that ascend do so after changes, and each name has what the changes of it say
pub record ChangesSetTheirNames : Type 0 where
  pub ascending : (rows : List (RecName × Covering)) (changes : List TileChange) → IsAscending name_order rows
      → IsAscending name_order (after_changes rows changes)
  pub coverings : (rows : List (RecName × Covering)) (changes : List TileChange) (n : RecName) → IsAscending name_order rows
      → value_of name_order (after_changes rows changes) n ≡ covering_after (value_of name_order rows n) changes n
