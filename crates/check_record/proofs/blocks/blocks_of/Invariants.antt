use Rattle.std.proofs.Common.{◌≡◌, ◌++◌, All, length}
use Rattle.check_record.specs.Blocks.{IsBoxed, segments_in}
use Rattle.check_record.proofs.blocks.blocks_of.Given as goal

abbrev pub invariant-loop-rest : goal.invariant-loop-rest
invariant-loop-rest l = (All IsBoxed l.blocks.items) × (segments_in l.blocks.items ++ l.rest ≡ l.segments)

abbrev pub decreases-loop-rest : goal.decreases-loop-rest
decreases-loop-rest l = length l.rest
