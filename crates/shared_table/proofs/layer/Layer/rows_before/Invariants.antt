use Rattle.std.proofs.Common.{◌≡◌}
use Rattle.row_spec.specs.Blocks.{rows_before}
use Rattle.shared_table.specs.Pieces.{blocks_of}
use Rattle.shared_table.proofs.layer.Layer.rows_before.Given as goal

abbrev pub invariant-loop-entry : goal.invariant-loop-entry
invariant-loop-entry g l = l.count ≡ rows_before (blocks_of l.self) l.entry-index
