use Rattle.std.proofs.Common.{◌≡◌, drop}
use Rattle.tile_index.specs.Extents.{box_with}
use Rattle.tile_index.proofs.cover.box_with.Given as goal

abbrev pub invariant-loop-segment : goal.invariant-loop-segment
invariant-loop-segment l = box_with l.around (drop l.segment-index l.segments) ≡ box_with l.fn.start l.segments
