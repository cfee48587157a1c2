use Rattle.finding_laws.proofs.AffectedSet.{is_set}
use Rattle.finding_laws.proofs.change.affected_list_is_set.Goals as goal

pub returns : goal.returns
returns c = is_set c.affected_subjects_are_considered.ensures
