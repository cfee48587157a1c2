use Rattle.file_spec.proofs.CellBack.{cell_is_read_back}
use Rattle.file_spec.proofs.law.written_cell_is_read.Goals as goal

pub returns : goal.returns
returns c = cell_is_read_back
