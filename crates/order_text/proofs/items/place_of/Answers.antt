use Rattle.order_text.proofs.Pieces.{position-found, position-missed}
use Rattle.order_text.proofs.items.place_of.Goals as goal

pub returns-in-Some-clause-place : goal.returns-in-Some-clause-place
returns-in-Some-clause-place c = position-found _ c.args.text.now c.in-Some.place c.in-Some.ensures

pub returns-in-None-clause-place : goal.returns-in-None-clause-place
returns-in-None-clause-place c = position-missed _ c.args.text.now c.in-None.ensures
