use Rattle.room_laws.proofs.Orders.{order_is, few_entries}
use Rattle.room_laws.proofs.law.entries_are_in_order.Goals as goal

pub returns-clause-order : goal.returns-clause-order
returns-clause-order c cell scripts entries r = order_is cell scripts entries r

pub returns-clause-few : goal.returns-clause-few
returns-clause-few c most sessions entries all each = few_entries most sessions entries all each
