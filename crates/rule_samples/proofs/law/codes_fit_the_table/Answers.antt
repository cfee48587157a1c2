use Rattle.std.proofs.Common.{refl}
use Rattle.rule_samples.proofs.law.codes_fit_the_table.Goals as goal

pub returns-clause-codes : goal.returns-clause-codes
returns-clause-codes c = (refl, refl, refl)

pub returns-clause-coverage : goal.returns-clause-coverage
returns-clause-coverage c = refl
