use Rattle.std.proofs.Common.{◌≡◌, ◌≤◌, ◌+◌, flat_map, take}
use Rattle.cell_spec.specs.Edits.{keys_of_edit}
use Rattle.cell_overlay.proofs.keys.keys_of.Given as goal

abbrev pub invariant-loop-edit : goal.invariant-loop-edit
invariant-loop-edit g l =
    (l.keys.items ≡ flat_map (keys_of_edit (g.B.Look.cell l.look)) (take l.edit-index l.edits))
    × (l.steps ≤ l.fn.steps + l.edit-index)
