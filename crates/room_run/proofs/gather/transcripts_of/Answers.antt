use Rattle.std.proofs.Common.{List, ℕ, ◌++◌, ◌∷◌, [], length, refl, sym, subst, rules}
use Rattle.std.proofs.lemmas.Iterator.Adapters.{YieldsList-from_vec}
use Rattle.std.proofs.lemmas.Iterator.Consumers.{YieldsList-turn}
use Rattle.room_run.specs.Rooms.{DoneWith}
use Rattle.room_run.proofs.Outcomes.{done_more, one_of}
use Rattle.room_run.proofs.gather.transcripts_of.Goals as goal

pub loop-outcome-preserved : goal.loop-outcome-preserved
loop-outcome-preserved c =
    subst (λ (texts : List (List ℕ)). DoneWith (c.loop-outcome.yielded ++ c.in-Some-outcome.outcome ∷ []) texts) (sym c.in_ok-keep_lines-in-Done.ensures)
    (done_more c.loop-outcome.yielded c.loop-outcome.transcripts.items c.in-Some-outcome.outcome c.in-Some-outcome.outcome.session.lines
    c.loop-outcome.invariant c.in-Done.is refl)

pub returns-in-Stuck-clause-end : goal.returns-in-Stuck-clause-end
returns-in-Stuck-clause-end c =
    let turn = YieldsList-turn (YieldsList-from_vec c.args.outcomes.items (search rules) (search rules)) c.loop-outcome.yielded
    c.loop-outcome.outcome-iterator c.loop-outcome.yielded_by c.next.result c.next.new.self c.in-Some-outcome.outcome
    c.in-Some-outcome.is c.next.ensures.steps in
    one_of c.args.outcomes.items (length c.loop-outcome.yielded) c.in-Some-outcome.outcome c.in-Stuck.stuck turn.0 turn.1 c.in-Stuck.is
