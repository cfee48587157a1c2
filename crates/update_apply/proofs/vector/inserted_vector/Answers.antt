use Rattle.std.proofs.Common.{refl, arith}
use Rattle.cell_read.proofs.KeptRecords.{kept_vector}
use Rattle.update_spec.specs.UpdateRecords.{inserted_vector}
use Rattle.update_apply.specs.Kept.{row_limit}
use Rattle.update_apply.proofs.vector.inserted_vector.Goals as goal

pub returns : goal.returns
unfolding inserted_vector
returns c nall = rw c.in_ok-attrs.ensures
    (kept_vector row_limit (omega arith) nall _ _ refl c.in_ok-ends.ensures c.in_ok-plane.ensures c.in_ok-deep.ensures)
