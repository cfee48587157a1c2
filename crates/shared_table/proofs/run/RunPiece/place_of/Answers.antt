use Rattle.std.proofs.Common.{sym}
use Rattle.row_spec.proofs.Place.{lower_bound_found, lower_bound_gap}
use Rattle.shared_table.proofs.run.RunPiece.place_of.Goals as goal

pub returns-in-Ok : goal.returns-in-Ok
returns-in-Ok g c = sym (lower_bound_found g.K.Ord.cmp _ _ _ c.in-Ok.ensures)

pub returns-in-Err : goal.returns-in-Err
returns-in-Err g c = sym (lower_bound_gap g.K.Ord.cmp _ _ _ c.in-Err.ensures)
