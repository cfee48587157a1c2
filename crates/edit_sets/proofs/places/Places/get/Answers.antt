use Rattle.std.proofs.Common.{sym, ap, ◌∙◌}
use Rattle.std.specs.Prelude.{option_and_then, slice_get}
use Rattle.std.specs.List.{list_any}
use Rattle.cell_spec.specs.Names.{same_name}
use Rattle.edit_sets.proofs.NotedPlaces.{any_named, found_at_place, no_edit, place_there}
use Rattle.edit_sets.proofs.places.Places.get.Goals as goal

pub returns-in_err-k : goal.returns-in_err-k
returns-in_err-k c = λ edits are.
    ap (option_and_then (slice_get edits)) c.from_residual.ensures
    ∙ no_edit edits c.args.name
    (sym (any_named edits c.args.self.now.names c.args.name are.names_are) ∙ ap (list_any (λ other. same_name other c.args.name))
    (sym c.as_slice.ensures) ∙ c.in_err-k.ensures)

pub returns : goal.returns
returns c = λ edits are.
    found_at_place edits c.args.name c.index.result.now
    (place_there c.args.self.now.names c.args.self.now.places.items edits c.args.name c.in_ok-k.k c.index.result.now are.places_are
    (ap (λ names. slice_get names c.in_ok-k.k) (sym c.as_slice.ensures) ∙ c.in_ok-k.ensures)
    c.index.ensures)
