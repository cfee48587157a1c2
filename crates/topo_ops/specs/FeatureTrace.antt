-- Where a feature runs (S-57 Part 3, 7.6.8): the points of the edges that its spatial pointers name, one after the other.
use Rattle.std.specs.Prelude.{List, [], Option, flat_map, option_map}
use Rattle.std.specs.List.{dedup}
use Rattle.std.specs.Option.{option_map_or}
use Rattle.s57_types.specs.declared.name.RecName.{RecName}
use Rattle.s57_types.specs.declared.record.Feature.{Feature}
use Rattle.s57_types.specs.declared.record.Spot.{Spot}
use Rattle.s57_types.specs.declared.cell.Cell.{Cell}
use Rattle.geometry_spec.specs.Points.{Point}
use Rattle.rule_spec.specs.declared.line.EdgeLine.{EdgeLine}
use Rattle.rule_spec.specs.Boundary.{line_along}
use Rattle.rule_spec.specs.EdgePoints.{edge_line_of, same_point}
use Rattle.rule_spec.specs.Records.{feature_named}

-- the points that a spatial pointer goes along where names have these lines: in reverse for orientation (ORNT) 2; none where there is no line
abbrev pub points_along : (RecName → Option EdgeLine) → Spot → List Point
points_along lines s = option_map_or (λ (line : EdgeLine). (line_along s.ornt line).points) (lines s.to) []

-- the points along spatial pointers, in their order, equal neighbours once
abbrev pub trace_along : (RecName → Option EdgeLine) → List Spot → List Point
trace_along lines places = dedup same_point (flat_map (points_along lines) places)

-- the trace of a feature: edges without points add none
abbrev pub feature_trace : Cell → Feature → List Point
feature_trace c f = trace_along (edge_line_of c) f.places

-- the trace of the feature of a name; none where the cell has no such feature
abbrev pub trace_named : Cell → RecName → Option (List Point)
trace_named c n = option_map (feature_trace c) (feature_named c n)
