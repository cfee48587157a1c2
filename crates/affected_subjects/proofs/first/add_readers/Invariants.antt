use Rattle.std.proofs.Common.{◌≡◌}
use Rattle.finding_laws.specs.Tables.{readers_in}
use Rattle.affected_subjects.specs.Rounds.{add_all}
use Rattle.affected_subjects.proofs.first.add_readers.Given as goal

abbrev pub invariant-loop-subject : goal.invariant-loop-subject
invariant-loop-subject l = add_all l.set l.subject-iterator ≡ add_all l.fn.set (readers_in l.map l.fn.key)
