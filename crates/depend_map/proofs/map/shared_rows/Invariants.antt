use Rattle.std.proofs.Common.{◌≡◌, ◌++◌}
use Rattle.depend_map.specs.Changes.{kept_of}
use Rattle.depend_map.proofs.map.shared_rows.Given as goal

abbrev pub invariant-loop-subject : goal.invariant-loop-subject
invariant-loop-subject l = l.kept.items ++ kept_of l.subject-iterator.rest.items ≡ kept_of l.fn.rows.items
