use Rattle.std.proofs.Common.{◌≡◌, ◌+◌, ◌≤◌, drop, filter_map}
use Rattle.history_spec.specs.Steps.{edit_refusal, first_of}
use Rattle.cell_bench.proofs.records.first_edit_refusal.Given as goal

abbrev pub invariant-loop-edit : goal.invariant-loop-edit
invariant-loop-edit g l = record {
  first : first_of (filter_map (edit_refusal l.store) (drop l.edit-index l.edits)) ≡ first_of (filter_map (edit_refusal l.store) l.edits);
  steps : l.steps ≤ l.fn.steps + l.edit-index;
}
