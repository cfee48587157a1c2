use Rattle.geometry_spec.proofs.LyingOn.{lying_on_decided}
use Rattle.geometry_spec.proofs.law.signs_decide_lying_on.Goals as goal

pub returns : goal.returns
returns c = lying_on_decided
