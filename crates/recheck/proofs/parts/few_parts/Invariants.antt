use Rattle.std.specs.Prelude.{All}
use Rattle.check_pairs.specs.Parts.{IsPart}
use Rattle.recheck.proofs.parts.few_parts.Given as goal

abbrev pub invariant-loop-name : goal.invariant-loop-name
invariant-loop-name g l = All (IsPart (g.B.Look.cell l.look)) l.parts.items
