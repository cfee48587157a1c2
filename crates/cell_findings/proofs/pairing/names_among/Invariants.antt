use Rattle.std.proofs.Common.{◌≡◌, ◌++◌, drop}
use Rattle.cell_findings.specs.Near.{names_above}
use Rattle.cell_findings.proofs.pairing.names_among.Given as goal

abbrev pub invariant-loop-other : goal.invariant-loop-other
invariant-loop-other l = l.names.items ++ names_above l.leaf (drop l.other-index l.near) ≡ names_above l.leaf l.near
