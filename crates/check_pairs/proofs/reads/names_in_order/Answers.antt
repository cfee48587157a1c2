use Rattle.check_pairs.proofs.Keys.{six_held}
use Rattle.check_pairs.proofs.reads.names_in_order.Goals as goal

pub returns : goal.returns
returns c = λ f.
    six_held (f c.in_order.result.0) (f c.in_order-3.result.0) (f c.in_order-3.result.1) (f c.in_order-2.result.1)
    (f c.in_order.result.1) (f c.in_order-2.result.0) (f c.args.a.0) (f c.args.a.1) (f c.args.b.0) (f c.args.b.1) (f c.args.behind.0) (f c.args.behind.1)
    (c.in_order.ensures f) (c.in_order-2.ensures f) (c.in_order-3.ensures f)
