-- The strokes that draw a record. This project's own.
use Rattle.std.specs.Prelude.{List, [], ◌∷◌, Option, None, Some, map, flat_map, if◌then◌else◌}
use Rattle.std.specs.Option.{option_map_or}
use Rattle.s57_types.specs.declared.cell.Cell.{Cell}
use Rattle.s57_types.specs.declared.name.RecName.{RecName}
use Rattle.s57_types.specs.declared.record.Spot.{Spot}
use Rattle.s57_types.specs.declared.record.Vector.{Vector}
use Rattle.s57_types.specs.declared.record.Rec.{Rec}
use Rattle.s57_types.specs.declared.record.Rec.TheVariants.{V, F, H}
use Rattle.cell_spec.specs.Lookup.{lookup_record}
use Rattle.geometry_spec.specs.Points.{Point}
use Rattle.geometry_spec.specs.declared.tile.Box4.{Box4}
use Rattle.rule_spec.specs.EdgePoints.{edge_points_of}
use Rattle.rule_spec.specs.Records.{is_edge_name}
use Rattle.picture_places.specs.declared.page.PagePoint.{PagePoint}
use Rattle.picture_places.specs.Page.{page_point, positions_of}

-- points that are joined, one after the other; a single one is a dot
abbrev pub Stroke : Type 0
Stroke = List PagePoint

abbrev pub stroke_of : Box4 → List Point → Stroke
stroke_of around points = map (page_point around) points

abbrev pub dot_at : Box4 → Point → Stroke
dot_at around p = page_point around p ∷ []

-- the points of an edge from node to node, or its own where it has no line
abbrev pub drawn_points : Cell → Vector → List Point
drawn_points c v = option_map_or (λ (points : List Point). points) (edge_points_of c v.name) v.plane

-- an edge is one stroke, a node a dot at each of its positions
abbrev pub vector_strokes : Cell → Box4 → Vector → List Stroke
vector_strokes c around v = if is_edge_name v.name then stroke_of around (drawn_points c v) ∷ [] else map (dot_at around) (positions_of v)

-- the strokes of the vector record of a name
abbrev pub strokes_if_vector : Cell → Box4 → Option Rec → List Stroke
strokes_if_vector c around (Some (V v)) = vector_strokes c around v
strokes_if_vector c around (Some (F f)) = []
strokes_if_vector c around (Some (H h)) = []
strokes_if_vector c around None = []

abbrev pub target_strokes : Cell → Box4 → Spot → List Stroke
target_strokes c around s = strokes_if_vector c around (lookup_record c s.to)

-- the strokes of the record of a name; a feature's are those of the nodes and edges that it names
abbrev pub strokes_if_record : Cell → Box4 → Option Rec → List Stroke
strokes_if_record c around (Some (V v)) = vector_strokes c around v
strokes_if_record c around (Some (F f)) = flat_map (target_strokes c around) f.places
strokes_if_record c around (Some (H h)) = []
strokes_if_record c around None = []

abbrev pub strokes_named : Cell → Box4 → RecName → List Stroke
strokes_named c around n = strokes_if_record c around (lookup_record c n)
