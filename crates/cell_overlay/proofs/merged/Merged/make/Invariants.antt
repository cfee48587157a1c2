use Rattle.std.proofs.Common.{◌≤◌, ◌+◌, count_by, drop, take}
use Rattle.cell_overlay.specs.Laid.{AreMerged, has_a_list}
use Rattle.cell_overlay.proofs.merged.Merged.make.Given as goal

abbrev pub invariant-loop-key : goal.invariant-loop-key
invariant-loop-key g l = record {
  merged : AreMerged (take l.key-index l.keys) l.edits.edits (g.B.Look.cell l.base) l.merged.pointers l.merged.bearers;
  steps : l.steps + count_by has_a_list (drop l.key-index l.keys) ≤ l.fn.steps + count_by has_a_list l.keys;
}
