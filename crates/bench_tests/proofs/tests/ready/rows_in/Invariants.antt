use Rattle.std.proofs.Common.{◌≡◌, map, take}
use Rattle.rule_spec.specs.Affected.{exact_row}
use Rattle.bench_tests.proofs.tests.ready.rows_in.Given as goal

abbrev pub invariant-loop-subject : goal.invariant-loop-subject
invariant-loop-subject g l = l.rows.items ≡ map (exact_row l.store) (take l.subject-index l.subjects)
