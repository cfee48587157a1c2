use Rattle.std.proofs.Common.{◌≡◌, take}
use Rattle.affected_subjects.specs.Rounds.{first_of}
use Rattle.affected_subjects.proofs.first.first_round.Given as goal

abbrev pub invariant-loop-key : goal.invariant-loop-key
invariant-loop-key l = l.set ≡ first_of l.map (take l.key-index l.keys)
