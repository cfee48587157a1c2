use Rattle.affected_subjects.specs.NewPairs.{set_out, walk_past, walked_by}
use Rattle.affected_subjects.proofs.NewPairs.{fold_goes_on}
use Rattle.affected_subjects.proofs.second.second_round.Goals as goal

pub loop-subject-preserved : goal.loop-subject-preserved
loop-subject-preserved c =
    fold_goes_on (walk_past c.args.tiles.now c.args.noted.now.plan) set_out (walked_by c.loop-subject.walk) (walked_by c.pass.new.self)
    c.args.first.now c.loop-subject.subject-index _ c.loop-subject-test.true c.loop-subject.invariant c.in_ok-pass.ensures
