use Rattle.std.proofs.Common.{◌≡◌}
use Rattle.sessions.specs.SessionStates.{DoesAlone, IsAt, StaysServed}
use Rattle.sessions.proofs.Left.{left}
use Rattle.sessions.proofs.session.Session.advance.Given as goal

abbrev pub invariant-loop-stop : goal.invariant-loop-stop
invariant-loop-stop l = record {
  script : l.self.script ≡ l.fn.self.script;
  served : StaysServed l.base l.bench l.fn.self l.self;
  alone : DoesAlone l.base l.bench l.fn.self l.self;
  at : IsAt l.self l.stop;
}

abbrev pub decreases-loop-stop : goal.decreases-loop-stop
decreases-loop-stop l = left l.self l.stop
