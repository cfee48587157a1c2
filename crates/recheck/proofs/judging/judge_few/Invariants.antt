use Rattle.std.proofs.Common.{◌≡◌, map, take}
use Rattle.rule_spec.specs.Affected.{exact_row}
use Rattle.recheck.proofs.judging.judge_few.Given as goal

abbrev pub invariant-loop-subject : goal.invariant-loop-subject
invariant-loop-subject g l = l.rows.items ≡ map (exact_row (g.B.Look.cell l.look)) (take l.subject-index l.subjects)
