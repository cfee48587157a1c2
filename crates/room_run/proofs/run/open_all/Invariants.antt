use Rattle.std.proofs.Common.{◌≡◌, length}
use Rattle.room_run.specs.Rooms.{AreOpened}
use Rattle.room_run.proofs.run.open_all.Given as goal

abbrev pub invariant-loop-script : goal.invariant-loop-script
invariant-loop-script l = record {
  room : l.room ≡ record l.fn.room { desks = length l.yielded };
  opened : AreOpened l.fn.room.room l.yielded l.compilers.items;
}
