-- The nodes at the ends of a line, with their positions. This project's own.
use Rattle.std.specs.Prelude.{List, [], ◌∷◌, ◌++◌, Option, None, Some, option_map}
use Rattle.s57_types.specs.declared.name.RecName.{RecName}
use Rattle.s57_types.specs.declared.cell.Cell.{Cell}
use Rattle.geometry_spec.specs.Points.{Point}
use Rattle.rule_spec.specs.EdgePoints.{node_position}
use Rattle.rule_spec.specs.declared.line.EdgeLine.{EdgeLine}
use Rattle.near_records.specs.declared.ends.LineEnd.{LineEnd}

-- a node with its position, if it has one
abbrev pub line_end : Cell → Option RecName → Option LineEnd
line_end c None = None
line_end c (Some n) = option_map (λ (p : Point). record { node = n; at = p }) (node_position c n)

-- a line between two nodes, along these points
abbrev pub line_from : LineEnd → List Point → LineEnd → EdgeLine
line_from begins points ends = record { begins = begins.node; ends = ends.node; points = begins.at ∷ (points ++ ends.at ∷ []) }
