use Rattle.std.proofs.Common.{◌≡◌, fold, take}
use Rattle.affected_subjects.specs.NewPairs.{set_out, walk_past, walked_by}
use Rattle.affected_subjects.proofs.second.second_round.Given as goal

abbrev pub invariant-loop-subject : goal.invariant-loop-subject
invariant-loop-subject l = walked_by l.walk ≡ fold (walk_past l.tiles l.noted.plan) set_out (take l.subject-index l.first)
