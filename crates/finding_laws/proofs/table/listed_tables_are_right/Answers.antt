use Rattle.finding_laws.proofs.ListedTables.{all_is_right, reads_are_right}
use Rattle.finding_laws.proofs.Mates.{coverings_are_right}
use Rattle.finding_laws.proofs.table.listed_tables_are_right.Goals as goal

pub returns : goal.returns
returns c = record { verdicts = all_is_right; reads = reads_are_right; coverings = coverings_are_right }
