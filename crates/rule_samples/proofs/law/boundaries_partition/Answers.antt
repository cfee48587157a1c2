use Rattle.std.proofs.Common.{refl}
use Rattle.rule_samples.proofs.law.boundaries_partition.Goals as goal

pub returns : goal.returns
returns c = refl
