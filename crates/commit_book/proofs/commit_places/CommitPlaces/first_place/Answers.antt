use Rattle.std.proofs.Common.{subst, sym}
use Rattle.std.proofs.lemmas.List.{take_more}
use Rattle.commit_book.specs.CommitPlaces.{IsFirstPlace}
use Rattle.commit_book.proofs.PlaceOrder.{one_name_more}
use Rattle.commit_book.proofs.commit_places.CommitPlaces.first_place.Goals as goal

pub loop-name-preserved : goal.loop-name-preserved
loop-name-preserved c =
    subst (λ names. IsFirstPlace c.args.self.now names c.args.from c.args.to c.first_at-first.result)
    (sym (take_more c.args.names.now c.loop-name.name-index _ c.loop-name-test.true))
    (one_name_more c.args.self.now _ _ c.args.from c.args.to c.loop-name.first c.first_at-first.result c.loop-name.invariant c.first_at-first.ensures)
