use Rattle.std.proofs.Common.{◌≡◌, ◌++◌, flat_map, take}
use Rattle.cell_spec.specs.Edits.{keys_of_edit}
use Rattle.record_store.proofs.store.RecordStore.push_all.Given as goal

abbrev pub invariant-loop-edit : goal.invariant-loop-edit
invariant-loop-edit l = l.keys.items ≡ l.fn.keys.items ++ flat_map (keys_of_edit l.self) (take l.edit-index l.edits)
