use Rattle.finding_laws.proofs.ListedTables.{readers_listed}
use Rattle.finding_laws.proofs.table.readers_are_listed.Goals as goal

pub returns : goal.returns
returns c = readers_listed
