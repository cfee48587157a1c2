use Rattle.std.proofs.Common.{take}
use Rattle.std.specs.List.{AllZip}
use Rattle.row_spec.specs.Blocks.{AreRunCopies}
use Rattle.row_table.proofs.blocks.Blocks.copy.Given as goal

abbrev pub invariant-loop-run : goal.invariant-loop-run
invariant-loop-run g l = AllZip (AreRunCopies g.V.Clone.is_clone) (take l.run-index l.run-items) l.runs.items
