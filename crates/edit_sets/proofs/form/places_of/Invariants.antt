use Rattle.std.proofs.Common.{◌≡◌, ℕ, ◌<◌, None, map, take}
use Rattle.cell_spec.specs.Ascending.{ascending}
use Rattle.cell_spec.specs.Edits.{name_of_edit}
use Rattle.cell_spec.specs.Names.{name_order}
use Rattle.edit_sets.specs.FormFault.{fault_at}
use Rattle.edit_sets.specs.Places.{ArePlaces}
use Rattle.edit_sets.proofs.form.places_of.Given as goal

abbrev pub invariant-loop-k : goal.invariant-loop-k
invariant-loop-k l =
    (l.places.names ≡ ascending name_order (map name_of_edit l.edits))
    × ArePlaces (take l.k l.edits) l.places.names l.places.places.items
    × ((k : ℕ) → k < l.k → fault_at l.nall l.edits k ≡ None)
