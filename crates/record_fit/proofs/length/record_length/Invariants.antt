use Rattle.std.proofs.Common.{take}
use Rattle.record_fit.specs.Lengths.{IsSizesOf}
use Rattle.record_fit.proofs.length.record_length.Given as goal

abbrev pub invariant-loop-field : goal.invariant-loop-field
invariant-loop-field l = IsSizesOf (take l.field-index l.lengths) l.sizes
