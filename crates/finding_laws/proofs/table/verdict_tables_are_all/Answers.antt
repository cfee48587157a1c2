use Rattle.finding_laws.proofs.ListedTables.{verdicts_are_all}
use Rattle.finding_laws.proofs.table.verdict_tables_are_all.Goals as goal

pub returns : goal.returns
returns c = verdicts_are_all
