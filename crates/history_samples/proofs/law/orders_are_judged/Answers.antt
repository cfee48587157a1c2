use Rattle.std.proofs.Common.{refl}
use Rattle.std.specs.Fmt.{digits}
use Rattle.text_spec.specs.OrderLine.{order_of}
use Rattle.history_samples.proofs.law.orders_are_judged.Goals as goal

pub returns-clause-taken : goal.returns-clause-taken
unfolding digits order_of
returns-clause-taken c = (refl, refl, refl)

pub returns-clause-refused : goal.returns-clause-refused
unfolding digits order_of
returns-clause-refused c = (refl, refl)
