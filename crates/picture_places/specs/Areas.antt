-- The loops that fill an area (S-57 Part 3, 7.6.8; Appendix B.1, 3.8). A hole is a loop in a loop.
use Rattle.std.specs.Prelude.{List, [], flat_map, map, option_map, option_to_list}
use Rattle.s57_types.specs.declared.cell.Cell.{Cell}
use Rattle.s57_types.specs.declared.record.Feature.{Feature}
use Rattle.s57_types.specs.declared.record.Spot.{Spot}
use Rattle.geometry_spec.specs.Points.{Point}
use Rattle.geometry_spec.specs.declared.tile.Box4.{Box4}
use Rattle.ring_build.specs.Partition.{cut_of, length_of_block}
use Rattle.ring_build.specs.declared.ring.RingCut.{RingCut}
use Rattle.ring_build.specs.declared.ring.RingCut.TheVariants.{Whole, OpenAt}
use Rattle.rule_spec.specs.Boundary.{line_along}
use Rattle.rule_spec.specs.EdgePoints.{edge_line_of}
use Rattle.rule_spec.specs.Loops.{Arc, blocks_of}
use Rattle.rule_spec.specs.declared.line.EdgeLine.{EdgeLine}
use Rattle.picture_places.specs.Strokes.{Stroke, stroke_of}

-- the line of the edge that a spatial pointer names, in the pointer's direction, if it names one with a line
abbrev pub lines_at : Cell → Spot → List EdgeLine
lines_at c s = option_to_list (option_map (line_along s.ornt) (edge_line_of c s.to))

abbrev pub boundary_lines : Cell → Feature → List EdgeLine
boundary_lines c f = flat_map (lines_at c) f.places

abbrev pub arc_of_line : EdgeLine → Arc
arc_of_line line = (line.begins, line.ends)

abbrev pub points_of_line : EdgeLine → List Point
points_of_line line = line.points

-- a loop is one stroke through the points of its lines
abbrev pub loop_stroke : Box4 → List EdgeLine → Stroke
loop_stroke around loop = stroke_of around (flat_map points_of_line loop)

-- the loops of a boundary that is loops one after the other; none of another
abbrev pub strokes_of_cut : Box4 → List EdgeLine → RingCut → List Stroke
strokes_of_cut around lines (Whole blocks) = map (loop_stroke around) (blocks_of (map length_of_block blocks) lines)
strokes_of_cut around lines (OpenAt place) = []

abbrev pub boundary_strokes : Box4 → List EdgeLine → List Stroke
boundary_strokes around lines = strokes_of_cut around lines (cut_of (map arc_of_line lines))

abbrev pub area_strokes : Cell → Box4 → Feature → List Stroke
area_strokes c around f = boundary_strokes around (boundary_lines c f)
