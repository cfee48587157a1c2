use Rattle.std.proofs.Common.{List, length}
use Rattle.cell_spec.specs.declared.finding.Finding.{Finding}
use Rattle.cell_spec.specs.declared.key.Subject.{Subject}
use Rattle.cell_bench.specs.FindingTables.{AreRowsOf}
use Rattle.cell_bench.proofs.Grouped.{IsPartly}
use Rattle.cell_bench.proofs.table.rows_of.Given as goal

-- whatever the rows are, some are made, and the others are those of the rest
abbrev pub invariant-loop-rest : goal.invariant-loop-rest
invariant-loop-rest l = (all : List (Subject × List Finding)) → AreRowsOf all l.findings → IsPartly all l.rows.items l.rest

abbrev pub decreases-loop-rest : goal.decreases-loop-rest
decreases-loop-rest l = length l.rest
