use Rattle.order_text.proofs.OrderLines.{order_of-line, order_line-first, order_line-one}
use Rattle.order_text.proofs.ReadOrders.{order_of-order}
use Rattle.order_text.proofs.law.order_lines_are_read.Goals as goal

pub returns-clause-read : goal.returns-clause-read
returns-clause-read c = order_of-line

pub returns-clause-one : goal.returns-clause-one
returns-clause-one c = order_line-one

pub returns-clause-only : goal.returns-clause-only
returns-clause-only c = order_of-order

pub returns-clause-first : goal.returns-clause-first
returns-clause-first c = order_line-first
