use Rattle.std.proofs.Common.{refl}
use Rattle.std.specs.Fmt.{digits}
use Rattle.history_samples.proofs.law.lines_are_spelled.Goals as goal

pub returns : goal.returns
unfolding digits
returns c = refl
