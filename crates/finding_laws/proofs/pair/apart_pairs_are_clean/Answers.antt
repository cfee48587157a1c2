use Rattle.finding_laws.proofs.FarExtents.{apart_is_clean}
use Rattle.finding_laws.proofs.pair.apart_pairs_are_clean.Goals as goal

pub returns : goal.returns
returns c = apart_is_clean
