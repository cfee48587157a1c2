use Rattle.decode_laws.proofs.DecodedCells.{decoded_is_writable}
use Rattle.decode_laws.proofs.law.decoded_cell_is_writable.Goals as goal

pub returns : goal.returns
returns c = decoded_is_writable
