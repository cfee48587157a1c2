use Rattle.std.proofs.Common.{◌+◌, ◌≤◌, take}
use Rattle.affected_subjects.specs.EditedCells.{KnowsBearers}
use Rattle.affected_subjects.proofs.borne.borne_after.Given as goal

abbrev pub invariant-loop-key : goal.invariant-loop-key
invariant-loop-key g l = record {
  known : KnowsBearers (take l.key-index l.keys) l.edits.edits l.store l.borne;
  steps : l.steps ≤ l.fn.steps + l.key-index;
}
