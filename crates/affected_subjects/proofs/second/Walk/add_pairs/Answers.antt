use Rattle.std.proofs.Common.{fold, ap, arith, ◌∙◌}
use Rattle.std.proofs.lemmas.List.{take_all}
use Rattle.affected_subjects.specs.NewPairs.{walked_by, with_pair}
use Rattle.affected_subjects.proofs.NewPairs.{fold_goes_on, pairs_added}
use Rattle.affected_subjects.proofs.second.Walk.add_pairs.Goals as goal

pub loop-mate-preserved : goal.loop-mate-preserved
loop-mate-preserved c =
    fold_goes_on (with_pair c.args.known.now c.args.name) (walked_by c.args.self.now) (walked_by c.loop-mate.self) (walked_by c.add_pair.new.self)
    c.args.mates.now c.loop-mate.mate-index _ c.loop-mate-test.true c.loop-mate.invariant c.in_ok-add_pair.ensures

pub returns : goal.returns
returns c =
    let w = walked_by c.args.self.now in
    let mates = c.args.mates.now in
    c.loop-mate.invariant
    ∙ ap (fold (with_pair c.args.known.now c.args.name) w) (take_all c.loop-mate.mate-index mates (omega arith))
    ∙ pairs_added c.args.known.now c.args.name w mates
