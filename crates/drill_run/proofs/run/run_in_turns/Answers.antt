use Rattle.std.proofs.Common.{List, length, ◌≤◌, sym, ◌∙◌, subst, arith}
use Rattle.std.specs.Prelude.{All}
use Rattle.text_spec.specs.OrderLine.{IsOrder}
use Rattle.text_spec.specs.declared.command.Command.{Command}
use Rattle.cell_make.specs.GeneratedScripts.{generated_scripts}
use Rattle.room_laws.specs.Orders.{quotas_of}
use Rattle.sessions.specs.Replays.{IsShortScript, session_limit}
use Rattle.drill_run.specs.RoundRobin.{round_robin}
use Rattle.drill_run.proofs.Counted.{counts_of_replay}
use Rattle.drill_run.proofs.Orders.{are_short, is_order, many_scripts}
use Rattle.drill_run.proofs.run.run_in_turns.Goals as goal

pub replay-requires-clause-few : goal.replay-requires-clause-few
replay-requires-clause-few g c κs within =
    subst (λ (scripts : List (List Command)). length scripts ≤ session_limit) (sym c.in_ok-scripts.ensures) (let many =
    many_scripts c.args.size c.args.sessions in omega (arith, many))

pub replay-requires-clause-short : goal.replay-requires-clause-short
replay-requires-clause-short g c κs within = subst (All IsShortScript) (sym c.in_ok-scripts.ensures) (are_short c.args.size c.args.sessions)

pub replay-requires-clause-order : goal.replay-requires-clause-order
replay-requires-clause-order g c κs within =
    subst (IsOrder (quotas_of c.in_ok-scripts.scripts.items)) (sym (c.deref.ensures.value ∙ c.in_ok-order.ensures))
    (subst (λ (scripts : List (List Command)). IsOrder (quotas_of scripts) (round_robin c.args.sessions)) (sym c.in_ok-scripts.ensures)
    (is_order c.args.size c.args.sessions))

pub returns-clause-whole : goal.returns-clause-whole
returns-clause-whole g c = is_order c.args.size c.args.sessions

pub returns-clause-counts : goal.returns-clause-counts
returns-clause-counts g c =
    counts_of_replay c.args.book.opening c.in_ok-scripts.scripts.items (generated_scripts c.args.size c.args.sessions) c.deref.result.now
    (round_robin c.args.sessions) c.in_ok-replayed.replayed c.counts_of.result
    c.in_ok-replayed.ensures c.counts_of.ensures c.in_ok-scripts.ensures (c.deref.ensures.value ∙ c.in_ok-order.ensures)
