use Rattle.std.proofs.Common.{◌≡◌, ◌++◌, drop, map}
use Rattle.rule_spec.specs.declared.kind.TheConstants.{WRONG_TURN}
use Rattle.rule_spec.specs.Findings.{finding}
use Rattle.rule_spec.specs.Loops.{blocks_of}
use Rattle.check_area.specs.Parts.{wrong_loops}
use Rattle.check_area.proofs.ring.push_wrong_turns.Given as goal

abbrev pub invariant-loop-n : goal.invariant-loop-n
invariant-loop-n l = l.findings.items ++ map (finding WRONG_TURN) (wrong_loops (blocks_of (drop l.n-index l.lengths) l.rest)) ≡
    l.fn.findings.items ++ map (finding WRONG_TURN) (wrong_loops (blocks_of l.lengths l.fn.parts))
