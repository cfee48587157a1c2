use Rattle.affected_subjects.proofs.Considered.{rounds}
use Rattle.affected_subjects.proofs.law.rounds_are_considered.Goals as goal

pub returns : goal.returns
returns c = rounds c.readers_are_listed.ensures c.mates_are_candidates.ensures
