use Rattle.std.proofs.Common.{◌≡◌, take}
use Rattle.file_spec.specs.RecordReading.{rows_of}
use Rattle.update_apply.proofs.given.kept_rows_of.Given as goal

abbrev pub invariant-loop-k : goal.invariant-loop-k
invariant-loop-k g l = l.rows.items ≡ rows_of l.tag (g.T.Given.content 0) (take l.k l.frame.fields)
