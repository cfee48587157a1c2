use Rattle.std.proofs.Common.{subst}
use Rattle.std.specs.List.Sorted.{IsBinarySearchResult}
use Rattle.std.specs.declared.cmp.Ordering.{Ordering}
use Rattle.cell_spec.specs.declared.key.Subject.{Subject}
use Rattle.affected_subjects.proofs.Placed.{finds, places}
use Rattle.affected_subjects.proofs.once.place_in.Goals as goal

pub returns : goal.returns
returns c =
    let subjects = c.args.subjects.now in
    let subject = c.args.subject in
    let search = c.binary_search.result in
    let cut = subst
    (λ (order : Subject → Subject → Ordering). IsBinarySearchResult (λ (t : Subject). order t subject) subjects search)
    (λ i a b. c.orders_are_by_parts.ensures.subjects a b i) c.binary_search.ensures.position in
    record {
      there = finds subjects subject c.requires search c.binary_search.ensures.bound cut;
      place = places subjects subject c.requires search c.binary_search.ensures.bound cut;
    }
