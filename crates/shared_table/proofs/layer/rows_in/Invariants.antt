use Rattle.std.proofs.Common.{◌≡◌, length, take}
use Rattle.shared_table.specs.Pieces.{rows_of}
use Rattle.shared_table.proofs.layer.rows_in.Given as goal

abbrev pub invariant-loop-entry : goal.invariant-loop-entry
invariant-loop-entry g l = l.count ≡ length (rows_of (take l.entry-index l.entries))
