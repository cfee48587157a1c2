use Rattle.finding_laws.proofs.KeptFindings.{findings_kept}
use Rattle.finding_laws.proofs.change.unaffected_subjects_keep_findings.Goals as goal

pub returns : goal.returns
returns c = findings_kept c.findings_follow_reads.ensures c.untouched_keys_keep_answers.ensures c.found_pairs_are_candidates.ensures
