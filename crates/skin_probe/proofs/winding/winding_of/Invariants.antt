use Rattle.std.proofs.Common.{◌≡◌, ◌+ℤ◌, drop}
use Rattle.skin_probe.specs.Winding.{crossing_of, sum_of}
use Rattle.skin_probe.proofs.winding.winding_of.Given as goal

abbrev pub invariant-loop-segment : goal.invariant-loop-segment
invariant-loop-segment l = (l.winding +ℤ sum_of (crossing_of l.at) (drop l.segment-index l.segments)) ≡ sum_of (crossing_of l.at) l.segments
