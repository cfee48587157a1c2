use Rattle.std.proofs.Common.{◌≡◌, []}
use Rattle.sessions.specs.Replays.{AreEditors, scripts_of}
use Rattle.sessions.proofs.run.open_editors.Given as goal

abbrev pub invariant-loop-script : goal.invariant-loop-script
invariant-loop-script l = record {
  scripts : scripts_of l.editors.items ≡ l.yielded;
  each : AreEditors l.book.opening [] l.editors.items;
}
