use Rattle.finding_laws.proofs.ValidRows.{stay}
use Rattle.finding_laws.proofs.change.valid_rows_stay_exact.Goals as goal

pub returns : goal.returns
returns c = stay c.findings_follow_reads.ensures c.edited_answers_are_local.ensures
