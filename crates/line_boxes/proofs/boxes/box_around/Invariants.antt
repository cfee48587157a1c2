use Rattle.std.proofs.Common.{◌≡◌, drop}
use Rattle.line_boxes.specs.LineBoxes.{box_with}
use Rattle.line_boxes.proofs.boxes.box_around.Given as goal

abbrev pub invariant-loop-segment : goal.invariant-loop-segment
invariant-loop-segment l = box_with l.around (drop l.segment-index l.segments) ≡ box_with l.fn.start l.segments
