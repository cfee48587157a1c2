use Rattle.std.proofs.Common.{◌≡◌, fold, take}
use Rattle.affected_subjects.specs.NewPairs.{walked_by, with_pair}
use Rattle.affected_subjects.proofs.second.Walk.add_pairs.Given as goal

abbrev pub invariant-loop-mate : goal.invariant-loop-mate
invariant-loop-mate l = walked_by l.self ≡ fold (with_pair l.known l.fn.name) (walked_by l.fn.self) (take l.mate-index l.mates)
