use Rattle.finding_laws.proofs.KeptReads.{reads_kept}
use Rattle.finding_laws.proofs.change.unaffected_singles_keep_reads.Goals as goal

pub returns : goal.returns
returns c = reads_kept c.findings_follow_reads.ensures c.untouched_keys_keep_answers.ensures
