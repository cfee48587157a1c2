use Rattle.near_records.proofs.NearAnswers.{near_made_in_order}
use Rattle.near_records.proofs.near.gather_beside.Goals as goal

pub returns-clause-near : goal.returns-clause-near
returns-clause-near g c =
    near_made_in_order (g.B.Look.cell c.args.look.now) c.args.keys.now _ _ c.of.ensures
    (c.keys_ascend.ensures.0 c.if-not-keys_ascend.false) c.in_ok-answers.ensures.answers
