use Rattle.std.proofs.Common.{map, ap, ◌∙◌}
use Rattle.std.specs.Prelude.{option_and_then}
use Rattle.near_records.specs.Near.{KeyAnswer, answer_held}
use Rattle.near_records.proofs.near.NearRecordsNear.record.Goals as goal

pub returns-in-Some : goal.returns-in-Some
returns-in-Some c = λ cell keys near asked.
    ap (option_and_then (λ (a : KeyAnswer). a.found)) (c.in-Some.ensures cell keys (ap (map answer_held) c.deref.ensures.value ∙ near.answers) asked)

pub returns-in-None : goal.returns-in-None
returns-in-None c = λ cell keys near asked.
    ap (option_and_then (λ (a : KeyAnswer). a.found)) (c.in-None.ensures cell keys (ap (map answer_held) c.deref.ensures.value ∙ near.answers) asked)
