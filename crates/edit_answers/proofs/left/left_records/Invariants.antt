use Rattle.std.proofs.Common.{◌≡◌, ◌++◌, drop, filter_map, map}
use Rattle.cell_spec.specs.Edits.{left_by}
use Rattle.edit_answers.proofs.left.left_records.Given as goal

abbrev pub invariant-loop-edit : goal.invariant-loop-edit
invariant-loop-edit l = map (λ r. r.now) l.list.items ++ filter_map left_by (drop l.edit-index l.edits) ≡ filter_map left_by l.edits
