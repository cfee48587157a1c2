use Rattle.read_laws.proofs.AscendingSubjects.{findings_ascend}
use Rattle.read_laws.proofs.law.findings_ascend.Goals as goal

pub returns : goal.returns
returns c = findings_ascend
