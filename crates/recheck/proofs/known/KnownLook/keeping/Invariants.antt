use Rattle.std.proofs.Common.{◌≡◌}
use Rattle.recheck.proofs.known.KnownLook.keeping.Given as goal

abbrev pub invariant-loop-name : goal.invariant-loop-name
invariant-loop-name g l = l.known ≡ g.B.Look.cell l.base
