use Rattle.finding_laws.proofs.Listed.{holds_subject}
use Rattle.finding_laws.proofs.change.subjects_are_listed.Goals as goal

pub returns : goal.returns
returns c = holds_subject
