use Rattle.std.proofs.Common.{Option, false, map, ap, ◌∙◌}
use Rattle.std.specs.Option.{option_map_or}
use Rattle.near_records.specs.Near.{KeyAnswer, answer_held}
use Rattle.near_records.proofs.near.NearRecordsNear.is_borne.Goals as goal

pub returns-in-Some : goal.returns-in-Some
returns-in-Some c = λ cell keys near asked.
    ap (λ (o : Option KeyAnswer). option_map_or (λ (a : KeyAnswer). a.borne) o false)
    (c.in-Some.ensures cell keys (ap (map answer_held) c.deref.ensures.value ∙ near.answers) asked)

pub returns-in-None : goal.returns-in-None
returns-in-None c = λ cell keys near asked.
    ap (λ (o : Option KeyAnswer). option_map_or (λ (a : KeyAnswer). a.borne) o false)
    (c.in-None.ensures cell keys (ap (map answer_held) c.deref.ensures.value ∙ near.answers) asked)
