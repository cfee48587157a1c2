use Rattle.std.proofs.Common.{refl}
use Rattle.shared_table.proofs.Parts.{no_parts}
use Rattle.shared_table.proofs.layer.LayerChangingPiece.make.Goals as goal

pub invariant_of-result : goal.invariant_of-result
invariant_of-result g c = rw c.new.ensures.items (no_parts g.K.Ord.cmp, refl)
