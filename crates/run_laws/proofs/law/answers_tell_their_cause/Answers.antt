use Rattle.run_laws.proofs.Causes.{each_answered, step_tells}
use Rattle.run_laws.proofs.Only.{only_answer}
use Rattle.run_laws.proofs.law.answers_tell_their_cause.Goals as goal

pub returns-clause-one : goal.returns-clause-one
returns-clause-one c = step_tells

pub returns-clause-only : goal.returns-clause-only
returns-clause-only c = only_answer

pub returns-clause-each : goal.returns-clause-each
returns-clause-each c = each_answered
