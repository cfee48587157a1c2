use Rattle.file_spec.proofs.CellFields.{cell_records_found}
use Rattle.file_spec.proofs.WrittenFile.{written_records_found}
use Rattle.file_spec.proofs.law.written_records_are_found.Goals as goal

pub returns-clause-records : goal.returns-clause-records
returns-clause-records c = written_records_found

pub returns-clause-cell : goal.returns-clause-cell
returns-clause-cell c = cell_records_found
