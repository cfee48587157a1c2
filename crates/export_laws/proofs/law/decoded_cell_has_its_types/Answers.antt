use Rattle.export_laws.proofs.TypedCells.{decoded_has_its_types}
use Rattle.export_laws.proofs.law.decoded_cell_has_its_types.Goals as goal

pub returns : goal.returns
returns c = decoded_has_its_types
