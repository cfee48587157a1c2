use Rattle.call_files.proofs.order_input.judge_order.Goals as goal

pub returns-in-Ok-clause-order : goal.returns-in-Ok-clause-order
returns-in-Ok-clause-order c = (c.order_lines_are_read.ensures.only c.args.quotas.now c.args.bytes.now c.in-Ok.order c.in-Ok.ensures).0
