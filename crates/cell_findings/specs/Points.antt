-- The points and segments of connected nodes and edges, and the changes that put them into an index of tiles. This project's own.
use Rattle.std.specs.Prelude.{List, [], ◌∷◌, Option, None, Some, map, option_map, option_to_list, if◌then◌else◌}
use Rattle.std.specs.Option.{option_map_or}
use Rattle.s57_types.specs.declared.name.Kind.TheVariants.{Vc}
use Rattle.s57_types.specs.declared.name.RecName.{RecName}
use Rattle.s57_types.specs.declared.cell.Cell.{Cell}
use Rattle.cell_spec.specs.Names.{is_of_kind}
use Rattle.geometry_spec.specs.Points.{Point}
use Rattle.rule_spec.specs.EdgePoints.{Segment, edge_points_of, node_position, segments_of}
use Rattle.rule_spec.specs.Records.{is_edge_name}
use Rattle.tile_index.specs.declared.change.TileChange.{TileChange}

-- the one position of a connected node, or the points of an edge's line
abbrev pub points_of : Cell → RecName → Option (List Point)
points_of c n = if is_of_kind Vc n then option_map (λ p. p ∷ []) (node_position c n) else (if is_edge_name n then edge_points_of c n else None)

-- the segments between the points of an edge's line, if it has one
abbrev pub segments_between : Cell → RecName → List Segment
segments_between c n = option_map_or segments_of (edge_points_of c n) []

-- the one position of a connected node as a segment, or the segments of an edge
abbrev pub segments_at : Cell → RecName → List Segment
segments_at c n = if is_of_kind Vc n then map (λ p. (p, p)) (option_to_list (node_position c n)) else (if is_edge_name n then segments_between c n else [])

-- a name is put at points
abbrev pub put_at : RecName → List Point → TileChange
put_at n points = record { name = n; points = Some points }

-- a name is put at its points, if it has any
abbrev pub changes_at : Cell → RecName → List TileChange
changes_at c n = map (put_at n) (option_to_list (points_of c n))
