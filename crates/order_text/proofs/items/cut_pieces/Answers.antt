use Rattle.order_text.proofs.Pieces.{few_found}
use Rattle.order_text.proofs.items.cut_pieces.Goals as goal

pub returns-clause-few : goal.returns-clause-few
returns-clause-few c = few_found c.loop-rest.found.items _ c.args.text.now c.loop-rest.invariant
