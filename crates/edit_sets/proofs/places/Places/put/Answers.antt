use Rattle.std.proofs.Common.{false, Some, sym, ap, ◌∙◌}
use Rattle.std.specs.Prelude.{slice_get}
use Rattle.edit_sets.proofs.NotedPlaces.{has_place, none_held, one_noted, place_there}
use Rattle.edit_sets.proofs.places.Places.put.Goals as goal

pub returns-then-is_some-clause-new : goal.returns-then-is_some-clause-new
returns-then-is_some-clause-new c = λ earlier are.
    has_place earlier c.args.name c.index.result.now
    (place_there c.args.self.now.names c.args.self.now.places.items earlier c.args.name c.in-Some.k c.index.result.now are
    (ap (λ names. slice_get names c.in-Some.k) (sym c.as_slice.ensures) ∙ c.in-Some.ensures) c.index.ensures)
    ∙ sym c.is_some.ensures ∙ c.if-is_some.true

pub returns-clause-noted : goal.returns-clause-noted
returns-clause-noted c = λ earlier edit are named count.
    let there = ap (λ names. slice_get names c.in-Some.k) (sym c.as_slice.ensures) ∙ c.in-Some.ensures in
    one_noted c.args.self.now.names c.args.self.now.places.items earlier edit c.in-Some.k c.args.place c.requires.rise are (there ∙ ap Some (sym named))
    (none_held c.args.self.now.names c.args.self.now.places.items c.in-Some.k c.args.name c.index.result.now c.requires.as_many
    there c.index.ensures (sym c.is_some.ensures ∙ c.if-is_some.false)) count

pub returns-clause-new : goal.returns-clause-new
returns-clause-new c = λ earlier are.
    has_place earlier c.args.name c.index.result.now
    (place_there c.args.self.now.names c.args.self.now.places.items earlier c.args.name c.in-Some.k c.index.result.now are
    (ap (λ names. slice_get names c.in-Some.k) (sym c.as_slice.ensures) ∙ c.in-Some.ensures) c.index.ensures)
    ∙ sym c.is_some.ensures ∙ c.if-is_some.false
