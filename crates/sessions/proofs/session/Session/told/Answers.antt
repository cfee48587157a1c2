use Rattle.std.proofs.Common.{ap, sym, ◌∙◌, take, ◌+◌}
use Rattle.sessions.specs.SessionStates.{SessionState, shared_command}
use Rattle.sessions.proofs.Scripts.{one_done}
use Rattle.sessions.proofs.session.Session.told.Goals as goal
use Rattle.sessions.proofs.session.Session.told.Goals.{then-eq, else-eq}

pub returns-clause-done : goal.returns-clause-done
returns-clause-done c =
    let first = one_done c.args.self.now c.self.inside.script c.self.inside.next (shared_command c.args.shared)
    (ap (λ (s : SessionState). s.script) (sym c.self.view_is)) (ap (λ (s : SessionState). s.done) (sym c.self.view_is))
    c.self.invariant.within c.requires in
    elim c.if-eq.branch [
      | then-eq w ↦ (λ i. take ((w.self-inside-is i).next + 1) (w.self-inside-is i).script) ∙ first
      | else-eq w ↦ (λ i. take ((w.self-inside-is i).next + 1) (w.self-inside-is i).script) ∙ first
    ]
