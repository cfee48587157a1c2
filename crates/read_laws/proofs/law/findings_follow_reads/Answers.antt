use Rattle.read_laws.proofs.Subjects.{findings_follow_reads}
use Rattle.read_laws.proofs.law.findings_follow_reads.Goals as goal

pub returns : goal.returns
returns c = findings_follow_reads
