use Rattle.std.proofs.Common.{◌≡◌, map, take}
use Rattle.cell_bench.specs.FindingTables.{finding_in}
use Rattle.cell_bench.proofs.table.findings_in.Given as goal

abbrev pub invariant-loop-finding : goal.invariant-loop-finding
invariant-loop-finding l = l.found.items ≡ map finding_in (take l.finding-index l.findings)
