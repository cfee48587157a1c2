use Rattle.commit_book.proofs.PlaceOrder.{first_of_none, first_of_range}
use Rattle.commit_book.proofs.commit_places.CommitPlaces.first_at.Goals as goal

pub returns-in-Some : goal.returns-in-Some
returns-in-Some c =
    first_of_range _ c.places_are_by_parts.ensures c.args.self.now c.args.name c.args.from c.args.to c.range-between.result
    (c.range-between.ensures.in_range tt) c.in-Some.first.now c.next.new.self c.in-Some.ensures.steps

pub returns-in-None : goal.returns-in-None
returns-in-None c =
    first_of_none _ c.places_are_by_parts.ensures c.args.self.now c.args.name c.args.from c.args.to c.range-between.result
    (c.range-between.ensures.in_range tt) c.requires c.in-None.ensures.steps.0
