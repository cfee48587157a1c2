use Rattle.std.proofs.Common.{refl, arith}
use Rattle.cell_read.proofs.KeptRecords.{kept_feature}
use Rattle.update_spec.specs.UpdateRecords.{inserted_feature}
use Rattle.update_apply.specs.Kept.{row_limit}
use Rattle.update_apply.proofs.feature.inserted_feature.Goals as goal

pub returns : goal.returns
unfolding inserted_feature
returns c nall = rw (c.feature_name.ensures, c.in_ok-attf.ensures, c.in_ok-natf.ensures)
    (kept_feature row_limit (omega arith) nall _ _ refl c.in_ok-partners.ensures c.in_ok-places.ensures)
