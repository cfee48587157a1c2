use Rattle.finding_laws.proofs.Mates.{mates_are_candidates}
use Rattle.finding_laws.proofs.table.mates_are_candidates.Goals as goal

pub returns : goal.returns
returns c = mates_are_candidates
