use Rattle.finding_laws.proofs.Considered.{all_considered}
use Rattle.finding_laws.proofs.change.affected_subjects_are_considered.Goals as goal

pub returns : goal.returns
returns c = all_considered c.findings_follow_reads.ensures c.untouched_keys_keep_answers.ensures
