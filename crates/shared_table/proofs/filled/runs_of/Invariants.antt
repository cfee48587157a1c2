use Rattle.std.proofs.Common.{◌≡◌, ◌++◌, reverse, vec_len}
use Rattle.shared_table.specs.Pieces.{AllBegin, rows_of}
use Rattle.shared_table.proofs.filled.runs_of.Given as goal

abbrev pub invariant-loop-row : goal.invariant-loop-row
invariant-loop-row g l = (rows_of l.runs.items ++ (l.run.items ++ reverse l.left.items) ≡ l.fn.rows.items) × AllBegin l.runs.items

abbrev pub decreases-loop-row : goal.decreases-loop-row
decreases-loop-row g l = vec_len l.left
