use Rattle.std.proofs.Common.{◌≡◌, ◌+◌, drop}
use Rattle.std.specs.List.{prefix_len}
use Rattle.cell_bench.specs.FindingTables.{is_about}
use Rattle.cell_bench.proofs.table.run_length.Given as goal

abbrev pub invariant-loop-k : goal.invariant-loop-k
invariant-loop-k l = l.k + prefix_len (is_about l.subject) (drop l.k l.findings) ≡ prefix_len (is_about l.subject) l.findings
