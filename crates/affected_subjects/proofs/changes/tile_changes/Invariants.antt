use Rattle.std.proofs.Common.{◌≡◌, flat_map, take}
use Rattle.affected_subjects.specs.EditedCells.{changes_to}
use Rattle.affected_subjects.proofs.changes.tile_changes.Given as goal

abbrev pub invariant-loop-subject : goal.invariant-loop-subject
invariant-loop-subject l = l.changes.items ≡ flat_map (changes_to l.edited) (take l.subject-index l.subjects)
