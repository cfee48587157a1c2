use Rattle.std.proofs.Common.{◌≡◌, length, ap, arith}
use Rattle.cell_spec.specs.Ascending.{ascending}
use Rattle.cell_spec.specs.Names.{key_order}
use Rattle.near_records.proofs.NearAnswers.{near_made_in_order, shorter_ascending}
use Rattle.near_records.proofs.near.gather.Goals as goal

pub returns-in_err-answers-2-clause-steps : goal.returns-in_err-answers-2-clause-steps
returns-in_err-answers-2-clause-steps g c =
    let same : c.as_slice.result.now ≡ ascending key_order c.args.keys.now = cc (c.in_ok-held.ensures) in
    omega (arith, c.answers_to-2.ensures.steps, ap length same, shorter_ascending key_order c.args.keys.now)

pub returns-clause-steps : goal.returns-clause-steps
returns-clause-steps g c =
    let same : c.as_slice.result.now ≡ ascending key_order c.args.keys.now = cc (c.in_ok-held.ensures) in
    omega (arith, c.answers_to-2.ensures.steps, ap length same, shorter_ascending key_order c.args.keys.now)

pub returns-then-keys_ascend-clause-near : goal.returns-then-keys_ascend-clause-near
returns-then-keys_ascend-clause-near g c =
    near_made_in_order (g.B.Look.cell c.args.look.now) c.args.keys.now _ _ c.of.ensures
    (c.keys_ascend.ensures.0 c.if-keys_ascend.true) c.in_ok-answers.ensures.answers
