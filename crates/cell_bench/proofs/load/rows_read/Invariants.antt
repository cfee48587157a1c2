use Rattle.std.proofs.Common.{◌≡◌, map, take}
use Rattle.cell_bench.specs.Singles.{reads_row}
use Rattle.cell_bench.proofs.load.rows_read.Given as goal

abbrev pub invariant-loop-subject : goal.invariant-loop-subject
invariant-loop-subject g l = l.rows.items ≡ map (reads_row l.look) (take l.subject-index l.subjects)
