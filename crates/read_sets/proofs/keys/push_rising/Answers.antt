use Rattle.read_sets.proofs.Rising.{one_further}
use Rattle.read_sets.proofs.keys.push_rising.Goals as goal

pub loop-name-preserved : goal.loop-name-preserved
loop-name-preserved c =
    one_further _ _ c.loop-name.name-index _ _ c.loop-name-test.true (c.in_ok-push_next.ensures _ c.loop-name.invariant c.if-not-branch.false)
