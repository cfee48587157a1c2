use Rattle.std.proofs.Common.{refl, ap, sym, ◌∙◌, ◌++◌}
use Rattle.history_spec.specs.Served.{draft_after, local_lines}
use Rattle.sessions.specs.SessionStates.{SessionState, shared_command}
use Rattle.sessions.proofs.Alone.{one_alone}
use Rattle.sessions.proofs.Scripts.{one_done, stands}
use Rattle.sessions.proofs.session.Session.do_next.Goals as goal

pub returns-in-Some-shared_of-clause-stops : goal.returns-in-Some-shared_of-clause-stops
returns-in-Some-shared_of-clause-stops c =
    stands c.args.self.now c.self.inside.script c.commands.result.now c.self.inside.next c.in-Some.command.now (shared_command c.in-Some-shared_of.shared)
    (ap (λ (s : SessionState). s.script) (sym c.self.view_is)) (ap (λ (s : SessionState). s.done) (sym c.self.view_is)) c.commands.ensures
    c.in-Some.ensures.lookup.3.0 c.in-Some.ensures.lookup.1 c.in-Some-shared_of.ensures

pub returns-clause-alone : goal.returns-clause-alone
returns-clause-alone c =
    let s = c.args.self.now in
    let inside = c.self.inside in
    let is = c.self.view_is in
    let command = c.in-Some.command.now in
    let script_is = ap (λ (t : SessionState). t.script) (sym is) in
    let done_is = ap (λ (t : SessionState). t.done) (sym is) in
    let next = stands s inside.script c.commands.result.now inside.next command command script_is done_is c.commands.ensures
    c.in-Some.ensures.lookup.3.0 c.in-Some.ensures.lookup.1 refl in
    one_alone c.args.base c.args.bench.now s _ command c.in_default-shared_of.ensures
    (one_done s inside.script inside.next command script_is done_is c.self.invariant.within next)
    (c.in_ok-do_local.ensures.draft ∙ ap (λ (t : SessionState). draft_after command t.draft) is)
    (c.in_ok-do_local.ensures.lines ∙ ap (λ (t : SessionState). t.lines ++ local_lines c.args.bench.now c.args.base t.draft command) is)
