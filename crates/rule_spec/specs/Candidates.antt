-- Pairs of nodes and edges that may touch, by square tiles. This project's own rule.
use Rattle.std.specs.Prelude.{◌&&◌, ◌||◌, Bool, not, List, [], ◌++◌, map, filter, length, nat_lt, int_le, option_to_list}
use Rattle.std.specs.List.{list_any}
use Rattle.std.specs.Option.{option_map_or}
use Rattle.s57_types.specs.declared.name.RecName.{RecName}
use Rattle.s57_types.specs.declared.cell.Cell.{Cell}
use Rattle.cell_spec.specs.Ascending.{ascending}
use Rattle.cell_spec.specs.Lookup.{all_records, name_of}
use Rattle.cell_spec.specs.Names.{name_order, same_name}
use Rattle.geometry_spec.specs.declared.tile.TileRange.{TileRange}
use Rattle.geometry_spec.specs.Boxes.{box_of}
use Rattle.geometry_spec.specs.Tiles.{tiles_of, is_oversized}
use Rattle.rule_spec.specs.EdgePoints.{Segment, segments_of, node_position, edge_points_of}

-- a connected node with one position is a segment from it to it, and an edge with points is its segments
unfoldable pub segments_named : Cell → RecName → List Segment
segments_named c n = map (λ p. (p, p)) (option_to_list (node_position c n)) ++ option_map_or segments_of (edge_points_of c n) []

-- oversized for tiling: the box of a segment covers over 64 tiles
abbrev pub has_oversized : List Segment → Bool
has_oversized segments = list_any (λ (s : Segment). is_oversized (box_of s.0 s.1)) segments

abbrev pub tiles_under : Segment → TileRange
tiles_under s = tiles_of (box_of s.0 s.1)

-- two ranges have a tile in common
abbrev pub have_common_tile : TileRange → TileRange → Bool
have_common_tile a b = (int_le a.row_from b.row_to && int_le b.row_from a.row_to) && (int_le a.col_from b.col_to && int_le b.col_from a.col_to)

abbrev pub share_a_tile : List Segment → List Segment → Bool
share_a_tile ss ts = list_any (λ s. list_any (λ t. have_common_tile (tiles_under s) (tiles_under t)) ts) ss

-- two lists of segments, neither empty, of which one has an oversized segment, or which share a tile
abbrev pub may_touch : List Segment → List Segment → Bool
may_touch ss ts = (nat_lt 0 (length ss) && nat_lt 0 (length ts)) && ((has_oversized ss || has_oversized ts) || share_a_tile ss ts)

-- two different connected nodes or edges that may touch
abbrev pub are_candidates : Cell → RecName → RecName → Bool
are_candidates c a b = not (same_name a b) && may_touch (segments_named c a) (segments_named c b)

-- the candidates for a name, ascending
unfoldable pub candidates_of : Cell → RecName → List RecName
candidates_of c n = ascending name_order (filter (are_candidates c n) (map name_of (all_records c)))
