use Rattle.std.proofs.Common.{◌≡◌, take}
use Rattle.shared_table.proofs.run.copy_rows.Given as goal

abbrev pub invariant-loop-key : goal.invariant-loop-key
invariant-loop-key g l = l.twins.items ≡ take l.key-index l.rows
