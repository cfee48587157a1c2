use Rattle.export_laws.proofs.TypedExports.{exports_are_read_back}
use Rattle.export_laws.proofs.law.exports_are_read_back.Goals as goal

pub returns : goal.returns
returns c = exports_are_read_back c.decoded_cell_is_writable.ensures c.decoded_cell_has_its_types.ensures c.scripts_have_their_types.ensures
    c.runs_are_read_back.ensures
