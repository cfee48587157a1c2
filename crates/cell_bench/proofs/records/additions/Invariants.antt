use Rattle.std.proofs.Common.{◌≡◌, ◌≤◌, count_by, take}
use Rattle.answer_laws.specs.EditedCells.{is_addition}
use Rattle.cell_bench.proofs.records.additions.Given as goal

abbrev pub invariant-loop-edit : goal.invariant-loop-edit
invariant-loop-edit l = (l.count ≡ count_by is_addition (take l.edit-index l.edits)) × (l.count ≤ l.edit-index)
