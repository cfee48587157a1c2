use Rattle.run_laws.proofs.InOrder.{sessions_in_order, each_in_order}
use Rattle.run_laws.proofs.law.sessions_are_served_in_order.Goals as goal

pub returns-clause-order : goal.returns-clause-order
returns-clause-order c = sessions_in_order

pub returns-clause-each : goal.returns-clause-each
returns-clause-each c = each_in_order
