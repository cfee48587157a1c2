use Rattle.std.proofs.Common.{Some, ap}
use Rattle.std.proofs.lemmas.List.Sorted.{searchable_from_sorted}
use Rattle.cell_spec.proofs.Orders.{total_keys}
use Rattle.near_records.specs.declared.near.Answer.{Answer}
use Rattle.near_records.proofs.NearAnswers.{answer_there, answers_rise, never_missing}
use Rattle.near_records.proofs.near.find_answer.Goals as goal

pub returns-in-Ok : goal.returns-in-Ok
returns-in-Ok c = λ cell keys all asked.
    ap Some (answer_there cell keys c.args.answers.now all c.args.key c.in-Ok.k c.index-answers-k.result
    c.in-Ok.ensures.bound c.index-answers-k.is (c.in-Ok.ensures.position c.index-answers-k.result))

pub returns-in-Err : goal.returns-in-Err
returns-in-Err c = λ cell keys all asked.
    absurd (never_missing cell keys c.args.answers.now all c.args.key c.in-Err.field-0 asked
    (c.in-Err.ensures.position (searchable_from_sorted total_keys (λ (a : Answer). a.key) c.args.answers.now c.args.key
    (answers_rise cell keys c.args.answers.now all))))
