use Rattle.std.proofs.Common.{ap, ◌∙◌}
use Rattle.line_boxes.specs.LineBoxes.{line_box}
use Rattle.check_pairs.specs.SegmentedLines.{listed}
use Rattle.check_pairs.proofs.Segmented.{are_segments, is_line}
use Rattle.check_pairs.proofs.line.SegmentedLine.between.Goals as goal

pub invariant_of-result : goal.invariant_of-result
invariant_of-result c =
    are_segments c.args.begins c.args.points.now c.args.ends (listed c.in_ok-segments.segments) c.in_ok-segments.ensures _
    (c.box_of_line-around.ensures ∙ ap line_box c.as_slice.ensures)

pub returns : goal.returns
returns c = is_line c.args.begins c.args.points.now c.args.ends (listed c.in_ok-segments.segments) c.in_ok-segments.ensures
