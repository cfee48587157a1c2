use Rattle.std.proofs.Common.{◌≡◌, ◌++◌, drop, map}
use Rattle.rule_spec.specs.declared.kind.TheConstants.{MIXED_RING}
use Rattle.rule_spec.specs.Findings.{finding}
use Rattle.rule_spec.specs.Loops.{blocks_of}
use Rattle.check_area.specs.Parts.{mixed_loops}
use Rattle.check_area.proofs.ring.push_mixed.Given as goal

abbrev pub invariant-loop-n : goal.invariant-loop-n
invariant-loop-n l = l.findings.items ++ map (finding MIXED_RING) (mixed_loops (blocks_of (drop l.n-index l.lengths) l.rest)) ≡
    l.fn.findings.items ++ map (finding MIXED_RING) (mixed_loops (blocks_of l.lengths l.fn.parts))
