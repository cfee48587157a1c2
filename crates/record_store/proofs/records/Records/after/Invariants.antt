use Rattle.std.proofs.Common.{◌≡◌, take}
use Rattle.cell_spec.specs.Edits.{apply_edits}
use Rattle.record_store.proofs.records.Records.after.Given as goal

abbrev pub invariant-loop-edit : goal.invariant-loop-edit
invariant-loop-edit l = l.records ≡ apply_edits (take l.edit-index l.edits) l.fn.self
