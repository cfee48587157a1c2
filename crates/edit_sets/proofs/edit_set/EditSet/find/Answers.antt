use Rattle.std.proofs.Common.{List, sym, subst, ap, ◌∙◌}
use Rattle.std.specs.Prelude.{slice_get}
use Rattle.std.specs.Arc.{arc_value}
use Rattle.std.specs.List.Sorted.{IsStrictlySortedBy}
use Rattle.cell_spec.specs.Edits.{edit_of}
use Rattle.cell_spec.specs.Names.{name_order}
use Rattle.cell_spec.specs.declared.edit.Edit.{Edit}
use Rattle.edit_sets.specs.FormFault.{GuardedEdits}
use Rattle.edit_sets.specs.Places.{ArePlacesOf}
use Rattle.edit_sets.specs.declared.edit_set.Parts.{Parts}
use Rattle.edit_sets.proofs.NotedPlaces.{edit_got, names_rise}
use Rattle.edit_sets.proofs.edit_set.EditSet.find.Goals as goal

pub get-requires-clause-rise : goal.get-requires-clause-rise
get-requires-clause-rise c =
    let parts = arc_value c.self.inside.parts in
    subst (λ (p : Parts). IsStrictlySortedBy name_order p.places.names) (sym c.deref.ensures)
    (names_rise parts.edits parts.places.names c.self.invariant.places_are.names_are)

pub returns : goal.returns
returns c =
    let parts = arc_value c.self.inside.parts in
    let place = c.in_ok-place.place in
    edit_got c.as_slice.result.now place c.get-2.result c.get-2.ensures.lookup.0 c.get-2.ensures.lookup.1
    ∙ ap (λ (edits : List Edit). slice_get edits place) (c.as_slice.ensures ∙ ap (λ (p : Parts). p.edits) c.deref-2.ensures)
    ∙ c.in_ok-place.ensures parts.edits (subst (λ (p : Parts). ArePlacesOf parts.edits p.places) (sym c.deref.ensures) c.self.invariant.places_are)
    ∙ ap (λ (v : GuardedEdits). edit_of c.args.name v.edits) c.self.view_is
