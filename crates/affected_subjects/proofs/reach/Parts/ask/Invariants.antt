use Rattle.std.proofs.Common.{◌≡◌, ◌++◌, filter, take}
use Rattle.std.specs.Prelude.{not}
use Rattle.rule_spec.specs.Findings.{is_subject}
use Rattle.affected_subjects.proofs.reach.Parts.ask.Given as goal

abbrev pub invariant-loop-subject : goal.invariant-loop-subject
invariant-loop-subject l =
    (l.self.judged.items ≡ l.fn.self.judged.items ++ filter (is_subject l.edited) (take l.subject-index l.subjects))
    × (l.self.gone.items ≡ l.fn.self.gone.items ++ filter (λ s. not (is_subject l.edited s)) (take l.subject-index l.subjects))
