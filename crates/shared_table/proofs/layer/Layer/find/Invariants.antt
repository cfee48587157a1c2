use Rattle.std.proofs.Common.{◌≡◌, ◌+◌, ◌-◌, length}
use Rattle.row_spec.specs.Blocks.{rows_before}
use Rattle.shared_table.specs.Pieces.{blocks_of}
use Rattle.shared_table.proofs.layer.Layer.find.Given as goal

abbrev pub invariant-loop-left : goal.invariant-loop-left
invariant-loop-left g l = rows_before (blocks_of l.self-inside.entries.items) l.piece + l.left ≡ l.fn.place

abbrev pub decreases-loop-left : goal.decreases-loop-left
decreases-loop-left g l = length l.self-inside.entries.items - l.piece
