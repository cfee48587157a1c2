use Rattle.std.proofs.Common.{◌++◌, map, sym, ap, subst, ◌∙◌}
use Rattle.std.specs.Option.{option_or}
use Rattle.cell_spec.specs.Ascending.{ascending}
use Rattle.cell_spec.specs.Edits.{name_of_edit}
use Rattle.cell_spec.specs.Names.{name_order}
use Rattle.edit_sets.specs.FormFault.{first_edit_fault, form_fault}
use Rattle.edit_sets.specs.Places.{ArePlacesOf}
use Rattle.edit_sets.proofs.Formed.{counted_first, no_fault, refused}
use Rattle.edit_sets.proofs.edit_set.EditSet.make.Goals as goal

pub returns-in-Some : goal.returns-in-Some
returns-in-Some c =
    counted_first c.args.nall c.args.edits.now c.args.guards.now ∙ ap (λ fault. option_or fault (first_edit_fault c.args.nall c.args.edits.now))
    (sym c.count_fault.ensures ∙ c.in-Some.is)

pub returns-in_err-places_of : goal.returns-in_err-places_of
returns-in_err-places_of c =
    refused c.args.nall c.args.edits.now c.args.guards.now c.in_err-places_of.field-0.0 c.from_residual.result
    (sym c.count_fault.ensures ∙ c.in_default.is) c.in_err-places_of.ensures c.from_residual.ensures.1

pub of-requires : goal.of-requires
of-requires c =
    let edits = c.in_ok-copy_of.ensures in
    let guards = c.in_ok-copy_of-2.ensures in
    let none = no_fault c.args.nall c.args.edits.now c.args.guards.now (sym c.count_fault.ensures ∙ c.in_default.is) c.in_ok-places_of.ensures.none in
    record {
      no_fault = (λ i. form_fault c.args.nall (edits i) (guards i)) ∙ none;
      places_are = subst (λ held. ArePlacesOf held c.in_ok-places_of.field-0) (sym edits) c.in_ok-places_of.ensures.places_are;
      claims_are = c.in_ok-claims_of.ensures ∙ (λ i. ascending name_order (map name_of_edit (sym edits i) ++ sym guards i));
    }
