use Rattle.finding_laws.proofs.KeptReads.{segments_kept}
use Rattle.finding_laws.proofs.change.unaffected_records_keep_segments.Goals as goal

pub returns : goal.returns
returns c = segments_kept c.untouched_keys_keep_answers.ensures
