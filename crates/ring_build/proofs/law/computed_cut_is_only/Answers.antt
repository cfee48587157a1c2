use Rattle.ring_build.proofs.Cutting.{only_cut}
use Rattle.ring_build.proofs.law.computed_cut_is_only.Goals as goal

pub returns : goal.returns
returns c = only_cut
