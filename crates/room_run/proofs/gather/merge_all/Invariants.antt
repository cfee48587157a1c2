use Rattle.std.proofs.Common.{◌≡◌, map}
use Rattle.room_run.specs.Rooms.{KeepsDesks, outcome_of}
use Rattle.room_run.proofs.gather.merge_all.Given as goal

abbrev pub invariant-loop-compiler : goal.invariant-loop-compiler
invariant-loop-compiler l = record {
  room : l.into.room ≡ l.fn.into.room;
  keeps : KeepsDesks l.fn.into l.yielded l.into;
  outcomes : l.outcomes.items ≡ map outcome_of l.yielded;
}
