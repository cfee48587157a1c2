use Rattle.std.proofs.Common.{take}
use Rattle.sessions.specs.Replays.{AreServed, scripts_of}
use Rattle.sessions.proofs.run.serve_all.Given as goal

abbrev pub invariant-loop-number : goal.invariant-loop-number
invariant-loop-number g l = AreServed l.initial.book.opening (scripts_of l.initial.editors.items) (take l.number-index l.order) l.book l.editors.items
