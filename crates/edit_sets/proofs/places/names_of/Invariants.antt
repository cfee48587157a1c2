use Rattle.std.proofs.Common.{◌≡◌, map, take}
use Rattle.cell_spec.specs.Edits.{name_of_edit}
use Rattle.edit_sets.proofs.places.names_of.Given as goal

abbrev pub invariant-loop-edit : goal.invariant-loop-edit
invariant-loop-edit l = l.names.items ≡ map name_of_edit (take l.edit-index l.edits)
